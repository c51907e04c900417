-- Along the log: what a section has put has its number as stamp, or is open.
use Rattle.kc_table.proofs.Putting.{put-exactly, put-exactly_earlier, closed-before}
use Rattle.kc_table.proofs.laws.a_stamp_tells_whether_its_section_put_the_vertex.Goals as goal

pub returns-clause-last : goal.returns-clause-last
returns-clause-last c = λ shape opening log v low legal closed some. put-exactly shape opening v low log legal closed some

pub returns-clause-closed : goal.returns-clause-closed
returns-clause-closed c = closed-before

pub returns-clause-earlier : goal.returns-clause-earlier
returns-clause-earlier c = λ shape opening before log e v low legal pre some more.
    put-exactly_earlier shape opening v low before e log pre legal more some
