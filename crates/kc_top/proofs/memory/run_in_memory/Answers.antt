-- The bytes of the input are known, whether they are read or generated.
use Rattle.std.proofs.Common.{◌≡◌, ℕ, List, None, Some, IfSome, Option, refl}
use Rattle.kc_top.specs.Given.{generated_or, generated_or_bytes, given, input_bytes}
use Rattle.kc_top.specs.Settings.{asked}
use Rattle.kc_output.specs.declared.setting.Setting.{Setting}
use Rattle.kc_top.proofs.memory.run_in_memory.Goals as goal

-- what is told of the bytes where they are known holds of them
of_generated : (P : List ℕ → Type 0) (generator : Option ℕ) (bytes : List ℕ) → IfSome (generated_or generator (Some bytes)) P
    → P (generated_or_bytes generator bytes)
of_generated P None bytes h = h
of_generated P (Some number) bytes h = h

-- what holds of what is given holds of the bytes that are read
of_given : (P : List ℕ → Type 0) (asked : Option Setting) (bytes : List ℕ) → IfSome (given asked (Some bytes)) P → P (input_bytes asked bytes)
of_given P None bytes h = h
of_given P (Some setting) bytes h = of_generated P setting.generator bytes h

-- the bytes that are generated or read are known
generated-known : (generator : Option ℕ) (bytes : List ℕ) → generated_or generator (Some bytes) ≡ Some (generated_or_bytes generator bytes)
generated-known None bytes = refl
generated-known (Some number) bytes = refl

pub returns-clause-refused : goal.returns-clause-refused
returns-clause-refused g c = λ refused. of_given _ (asked c.args.words.now) c.args.streams.now.source.left (c.run.ensures.ended.refused refused)

pub returns-clause-refuses : goal.returns-clause-refuses
returns-clause-refuses g c = λ s n kind asks refuses.
    c.run.ensures.ended.refuses s (input_bytes (Some s) c.args.streams.now.source.left) n kind asks
    (generated-known s.generator c.args.streams.now.source.left) refuses

pub returns-clause-complete : goal.returns-clause-complete
returns-clause-complete g c = λ s told asks means.
    c.run.ensures.ended.complete s (input_bytes (Some s) c.args.streams.now.source.left) told asks
    (generated-known s.generator c.args.streams.now.source.left) means
