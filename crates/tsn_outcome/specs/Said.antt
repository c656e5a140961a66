-- What is said of an outcome: its status, its line, and the parts of that.
--     status_of                        its status
--     place_behind, place_of           the place of a fault
--     said, line_of                    its line, without its end and with it
--     code_of                          the code of what is refused
--     flowspan_of, settled_of          a flowspan, and a count
--     stop_of                          what is known where the limit was met
use Rattle.std.specs.Prelude.{ℕ, ℤ, pos, List, [], ◌∷◌, ◌++◌, codes, decimal, Option, Some, None, if◌then◌else◌}
use Rattle.std.specs.Ordering.{int_eq}
use Rattle.std.specs.Fmt.{signed_decimal}
use Rattle.tsn_model.specs.declared.Violation.{Violation}
use Rattle.tsn_model.specs.declared.Violation.TheVariants.{WrongCount, PastCycle, Overlap, Early, TooLate}
use Rattle.tsn_model.specs.Fault.{code_text, fault_text, place_text}
use Rattle.tsn_cert.specs.Fault as file
use Rattle.tsn_check.specs.Numbers.{number_of, node_of}
use Rattle.tsn_outcome.specs.declared.stop.Stop.{Stop}
use Rattle.tsn_outcome.specs.declared.outcome.FileKind.{FileKind}
use Rattle.tsn_outcome.specs.declared.outcome.FileKind.TheVariants as kind
use Rattle.tsn_outcome.specs.declared.outcome.Outcome.{Outcome}
use Rattle.tsn_outcome.specs.declared.outcome.Outcome.TheVariants.{Taken, Valid, NotValid, Optimal, NoSchedule, Stopped, Proved, Undercut, AcceptedOptimal, AcceptedFirst, AcceptedNone, RefusedNetwork, RefusedFile, RefusedPlan, RefusedCert, TooLong, TooMany, NoMemory, Failed}
use Rattle.tsn_outcome.specs.Stop.{span_or}

abbrev pub status_of : Outcome → ℕ
status_of Taken = 0
status_of (Valid flowspan) = 0
status_of (NotValid violation) = 6
status_of (Optimal flowspan settled) = 0
status_of (NoSchedule settled) = 4
status_of (Stopped known settled) = 5
status_of (Proved stated settled) = 0
status_of (Undercut stated better settled) = 6
status_of (AcceptedOptimal flowspan) = 0
status_of (AcceptedFirst flowspan) = 0
status_of AcceptedNone = 0
status_of (RefusedNetwork fault) = 3
status_of (RefusedFile of_kind fault) = 3
status_of (RefusedPlan fault) = 6
status_of (RefusedCert fault) = 6
status_of TooLong = 3
status_of TooMany = 3
status_of NoMemory = 7
status_of Failed = 8

-- what follows the link of an overlap: its lag, where that isn't 0
abbrev pub lag_text : ℤ → List ℕ
lag_text lag = if int_eq lag (pos 0) then [] else codes " " ++ signed_decimal lag

-- the numbers of the reasons why offsets are no valid schedule
abbrev pub violation_number : Violation → ℕ
violation_number WrongCount = 1
violation_number (PastCycle stream) = 2
violation_number (Overlap triple) = 3
violation_number (Early stream) = 4
violation_number (TooLate stream) = 5

-- the kind of a file that is refused
abbrev pub kind_text : FileKind → List ℕ
kind_text kind.Plan = codes "plan"
kind_text kind.Cert = codes "cert"

-- how many nodes were settled, how many steps an argument has, or how many conflicts there were
abbrev pub count_text : ℕ → List ℕ
count_text count = codes " settled " ++ decimal count

-- the place of a violation: its stream, or the two streams and the link of an overlap, and its lag, where that isn't 0; it has a text before it
abbrev pub violation_behind : List ℕ → Violation → List ℕ
violation_behind before WrongCount = []
violation_behind before (PastCycle stream) = before ++ codes "stream " ++ decimal stream
violation_behind before (Overlap triple) =
    before ++ decimal triple.left ++ codes " " ++ decimal triple.right ++ codes " " ++ decimal triple.link ++ lag_text triple.lag
violation_behind before (Early stream) = before ++ codes "stream " ++ decimal stream
violation_behind before (TooLate stream) = before ++ codes "stream " ++ decimal stream

-- the node of a tree, or the step of an argument, at which a fault lies, if it lies at one
abbrev pub node_behind : List ℕ → Option ℕ → List ℕ
node_behind before None = []
node_behind before (Some node) = before ++ codes "node " ++ decimal node

-- the place of a fault; of a plan or certificate file, which of them it is
abbrev pub place_behind : List ℕ → Outcome → List ℕ
place_behind before (NotValid violation) = violation_behind before violation
place_behind before (RefusedNetwork fault) = before ++ place_text fault.place
place_behind before (RefusedFile of_kind fault) = before ++ kind_text of_kind
place_behind before (RefusedPlan fault) = node_behind before (node_of fault)
place_behind before (RefusedCert fault) = node_behind before (node_of fault)
place_behind before _ = []

-- the line of an outcome, without its end
abbrev pub said : Outcome → List ℕ
said Taken = []
said (Valid flowspan) = codes "valid flowspan " ++ decimal flowspan
said (NotValid violation) = codes "not valid V" ++ decimal (violation_number violation) ++ violation_behind (codes " ") violation
said (Optimal flowspan settled) = codes "optimal " ++ decimal flowspan ++ count_text settled
said (NoSchedule settled) = codes "no schedule" ++ count_text settled
said (Stopped known settled) = codes "stopped " ++ span_or (codes "none") known.best ++ count_text settled
said (Proved stated settled) = codes "proved " ++ span_or (codes "no schedule") stated ++ count_text settled
said (Undercut stated better settled) = codes "undercut " ++ span_or (codes "none") stated ++ codes " by " ++ decimal better ++ count_text settled
said (AcceptedOptimal flowspan) = codes "accepted optimal " ++ decimal flowspan
said (AcceptedFirst flowspan) = codes "accepted first " ++ decimal flowspan
said AcceptedNone = codes "accepted no schedule"
said (RefusedNetwork fault) = codes "refused " ++ fault_text fault
said (RefusedFile of_kind fault) = codes "refused " ++ kind_text of_kind ++ codes " C" ++ decimal (file.number_of fault)
said (RefusedPlan fault) = codes "plan refused K" ++ decimal (number_of fault) ++ node_behind (codes " ") (node_of fault)
said (RefusedCert fault) = codes "certificate refused K" ++ decimal (number_of fault) ++ node_behind (codes " ") (node_of fault)
said TooLong = codes "too long"
said TooMany = codes "too many streams"
said NoMemory = codes "no memory"
said Failed = []

-- a text with a line feed at its end; nothing where it is empty
abbrev pub ended : List ℕ → List ℕ
ended [] = []
ended (c ∷ text) = (c ∷ text) ++ codes "\n"

-- the line of an outcome; empty where nothing is said
abbrev pub line_of : Outcome → List ℕ
line_of outcome = ended (said outcome)

-- the code of what is refused
abbrev pub code_of : Outcome → Option (List ℕ)
code_of (NotValid violation) = Some (codes "V" ++ decimal (violation_number violation))
code_of (RefusedNetwork fault) = Some (code_text fault.code)
code_of (RefusedFile of_kind fault) = Some (codes "C" ++ decimal (file.number_of fault))
code_of (RefusedPlan fault) = Some (codes "K" ++ decimal (number_of fault))
code_of (RefusedCert fault) = Some (codes "K" ++ decimal (number_of fault))
code_of _ = None

-- a text, where it isn't empty
abbrev pub text_if : List ℕ → Option (List ℕ)
text_if [] = None
text_if (c ∷ text) = Some (c ∷ text)

abbrev pub place_of : Outcome → Option (List ℕ)
place_of outcome = text_if (place_behind [] outcome)

-- the flowspan of the schedule; of an undercut plan and the better one, that of the better one
abbrev pub flowspan_of : Outcome → Option ℕ
flowspan_of (Valid flowspan) = Some flowspan
flowspan_of (Optimal flowspan settled) = Some flowspan
flowspan_of (Stopped known settled) = known.best
flowspan_of (Proved stated settled) = stated
flowspan_of (Undercut stated better settled) = Some better
flowspan_of (AcceptedOptimal flowspan) = Some flowspan
flowspan_of (AcceptedFirst flowspan) = Some flowspan
flowspan_of _ = None

-- how many nodes were settled, how many steps an argument has, or how many conflicts there were
abbrev pub settled_of : Outcome → Option ℕ
settled_of (Optimal flowspan settled) = Some settled
settled_of (NoSchedule settled) = Some settled
settled_of (Stopped known settled) = Some settled
settled_of (Proved stated settled) = Some settled
settled_of (Undercut stated better settled) = Some settled
settled_of _ = None

-- what is known where the limit was met
abbrev pub stop_of : Outcome → Option Stop
stop_of (Stopped known settled) = Some known
stop_of _ = None
