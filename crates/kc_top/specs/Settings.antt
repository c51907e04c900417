-- What the words of a run ask for.
use Rattle.std.specs.Prelude.{◌&&◌, ◌^◌, ℕ, Bool, true, List, Option, Some, None, codes, length, nat_le, nat_lt}
use Rattle.std.specs.Prelude.{option_map, option_and_then, unwrap_or, if◌then◌else◌}
use Rattle.std.specs.Str.{bytes_eq}
use Rattle.std.specs.Borrow.{Bor}
use Rattle.std.specs.Char.{is_ascii_digit}
use Rattle.std.specs.List.{list_all}
use Rattle.std.specs.Str.Parse.{digits_value}
use Rattle.clap.specs.Faults.{fault_of}
use Rattle.clap.specs.Simple.{App, matches_of, new_app, new_rule, on_top, with_rule}
use Rattle.clap.specs.Walk.{Row, Rule, first_of, is_empty, texts}
use Rattle.clap.specs.declared.builder.action.ArgAction.TheVariants.{Set}
use Rattle.kc_output.specs.declared.setting.Setting.{Setting}
use Rattle.kc_output.specs.declared.show.Show.{Show}
use Rattle.kc_output.specs.declared.show.Show.TheVariants.{Cores, Summary, Each}
use Rattle.kc_output.specs.declared.start.Start.{Start}
use Rattle.kc_output.specs.declared.start.Start.TheVariants.{Buckets, Hindex}
use Rattle.kc_output.specs.declared.setting.TheConstants.{MOST_WORKERS}
use Rattle.kc_top.specs.declared.words.TheConstants.{MOST_DIGITS}

-- an option with one value
abbrev pub option_named : List ℕ → Rule
option_named name = record (new_rule name) { long = Some name; action = Some Set }

-- The command that reads the words: five options, and no flag for help or the version. The words are those after the program's name.
abbrev pub command : App
command =
    with_rule (with_rule (with_rule (with_rule (with_rule
    (on_top (λ top. record top { no_binary_name = true; disable_help_flag = true; disable_version_flag = true }) (new_app (codes "kcore")))
    (option_named (codes "workers"))) (option_named (codes "show"))) (option_named (codes "level"))) (option_named (codes "gen")))
    (option_named (codes "start"))

-- one to ten decimal digits
abbrev pub is_short_numeral : List ℕ → Bool
is_short_numeral text = nat_lt 0 (length text) && nat_le (length text) MOST_DIGITS && list_all is_ascii_digit text

-- the number of one to ten decimal digits, if it is one of 32 bits
abbrev pub number : List ℕ → Option ℕ
number text = if is_short_numeral text && nat_lt (digits_value 10 text) (2 ^ 32) then Some (digits_value 10 text) else None

-- the number of workers: at least one, and not too many
abbrev pub workers : List ℕ → Option ℕ
workers text = option_and_then (λ n. if nat_lt 0 n && nat_le n MOST_WORKERS then Some n else None) (number text)

-- what is to be shown
abbrev pub show : List ℕ → Option Show
show text =
    if bytes_eq text (codes "cores") then Some Cores
    else if bytes_eq text (codes "summary") then Some Summary
    else if bytes_eq text (codes "each") then Some Each
    else None

-- how the core numbers of the start are to be found
abbrev pub start : List ℕ → Option Start
start text =
    if bytes_eq text (codes "buckets") then Some Buckets
    else if bytes_eq text (codes "hindex") then Some Hindex
    else None

-- what the value of an option says, which need not be given; none where the value is wrong
abbrev pub read : {X : Type 0} → (List ℕ → Option X) → Option (List ℕ) → Option (Option X)
read says None = Some None
read says (Some text) = option_map (λ x. Some x) (says text)

-- what is shown where nothing is said of it: with a generated input the lines alone
abbrev pub usual_show : Option ℕ → Show
usual_show None = Cores
usual_show (Some n) = Summary

-- the setting, where each of the five is right: one worker, no level and buckets where nothing is said of them
abbrev pub together : Option (Option ℕ) → Option (Option Show) → Option (Option ℕ) → Option (Option ℕ) → Option (Option Start) → Option Setting
together (Some workers) (Some show) (Some level) (Some generator) (Some start) = Some (record {
  workers = unwrap_or workers 1;
  show = unwrap_or show (usual_show generator);
  level = level;
  generator = generator;
  start = unwrap_or start Buckets;
})
together _ _ _ _ _ = None

-- what the values of the options ask for
abbrev pub setting_in : List Row → Option Setting
setting_in rows = together (read workers (first_of (codes "workers") rows)) (read show (first_of (codes "show") rows))
    (read number (first_of (codes "level") rows)) (read number (first_of (codes "gen") rows)) (read start (first_of (codes "start") rows))

-- What the words ask for, where the command takes them and each value is right. The words are not right where there is none.
unfoldable pub setting : List (List ℕ) → Option Setting
setting words = if is_empty (fault_of command words) then setting_in (matches_of command words) else None

-- what the words ask for, where they are behind references
abbrev pub asked : List (Bor (List ℕ)) → Option Setting
asked words = setting (texts words)
