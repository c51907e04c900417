-- Which request is which wish, and what is replied to words.
use Rattle.std.specs.Prelude.{◌≡◌, false, map, option_map, true, ⊤}
use Rattle.clap.specs.declared.error.kind.ErrorKind.{ErrorKind}
use Rattle.kc_wishes.specs.Wishes.{Asks, BegunFrom, BegunFromState, Checks, ChecksStream, GraphText, MayReply, Query, Saves, SavingPlan, StreamQuery}
use Rattle.kc_wishes.specs.Wishes.{StreamStart, Unbegun, Watches, Wish, is_shown}
use Rattle.kc_wishes.specs.declared.request.NamedText.{NamedText}
use Rattle.kc_wishes.specs.declared.request.Request.{Request}
use Rattle.kc_wishes.specs.declared.request.SavePlan.{SavePlan}
use Rattle.kc_wishes.specs.declared.request.StreamStart.{StreamStart as RequestedStart}
use Rattle.kc_wishes.specs.declared.request.StreamStart.TheVariants as start
use Rattle.kc_wishes.specs.declared.request.WatchRequest.{WatchRequest}
use Rattle.kc_wishes.specs.declared.request.Wanted.{Wanted}
use Rattle.kc_wishes.specs.declared.request.Wanted.TheVariants as wanted
use Rattle.kc_wishes.specs.declared.words.Reply.{Reply}
use Rattle.kc_wishes.specs.declared.words.Reply.TheVariants as reply

-- what is replied where `clap` has an error of this kind
abbrev pub IsReplyFor : Reply → ErrorKind → Type 0
IsReplyFor (reply.Asked text) kind = is_shown kind ≡ true
IsReplyFor (reply.Mistake text) kind = is_shown kind ≡ false
IsReplyFor reply.NoMemory kind = ⊤

-- what is replied where words ask for this
abbrev pub RepliesTo : Reply → Wish → Type 0
RepliesTo (reply.Asked text) wish = MayReply true wish
RepliesTo (reply.Mistake text) wish = MayReply false wish
RepliesTo reply.NoMemory wish = ⊤

-- the text that words name
abbrev pub text_of : NamedText → GraphText
text_of named = record { file = option_map (λ name. name.now) named.file; dialect = named.dialect; threads = named.threads }

-- what a request asks for
abbrev pub query_of : Request → Query
query_of request = record { task = request.task; graph = text_of request.graph; format = request.format; quiet = request.quiet }

-- what stands in front of a stream, by a request
abbrev pub start_of : RequestedStart → StreamStart
start_of start.Nothing = Unbegun
start_of (start.From name) = BegunFrom name.now
start_of (start.Load name) = BegunFromState name.now

-- where the state of a stream is saved, by a request
abbrev pub plan_of : SavePlan → SavingPlan
plan_of plan = record { file = plan.file.now; every = plan.every }

-- what a request to answer a stream asks for
abbrev pub stream_of_request : WatchRequest → StreamQuery
stream_of_request request = record { options = request.options; start = start_of request.start; save = option_map plan_of request.save }

-- the request is what words ask for
abbrev pub IsRequestFor : Wanted → Wish → Type 0
IsRequestFor (wanted.Lines request) wish = wish ≡ Asks (query_of request)
IsRequestFor (wanted.Save request) wish = wish ≡ Saves request.file.now (query_of request.lines)
IsRequestFor (wanted.Check request) wish = wish ≡ Checks request.certificate.now (text_of request.graph)
IsRequestFor (wanted.CheckStream request) wish = wish ≡ ChecksStream request.certificate.now (map (λ name. name.now) request.files.items)
IsRequestFor (wanted.Watch request) wish = wish ≡ Watches (stream_of_request request)
