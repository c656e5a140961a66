-- What a run of a command ends with, by what its sources gave and its sinks took.
--     Reading, GivesFile, GivesTooMuch      a source over a run
--     Writing, TakesAll, TakesBeginning     the sinks over a run
--     taken_in, failed_in                   a sink that may be none
--     Output, Command, Answers, BreaksOff   what a command answers, and how far it goes where a read fails
--     Ends, EndsEarly                       a run that was done, and one in which a write failed
--     source_over, sink_over                a source or a sink over a run, with the calls that failed
--     EndsOver, RunsOver                    how a run ends over them
use Rattle.std.specs.Prelude.{◌≡◌, ◌≢◌, ◌+◌, ◌≤◌, ◌<◌, ◌⊎◌, ℕ, List, [], ◌∷◌, ◌++◌, Bool, IsTrue, length, take, codes, Option, None, Some, All, sum_by, map}
use Rattle.std.specs.Io.KnownBytes.{Appends, Keeps}
use Rattle.tsn_device.specs.declared.run.TheConstants.{DEVICE}

-- the most bytes of a file
abbrev pub max_file : ℕ
max_file = 1099511627776

-- the most bytes that a command asks a source for at a time
abbrev pub piece : ℕ
piece = 4096

-- a source over a run: the bytes that it had given before and has given after (None where it can't tell), and whether it is at its end after
pub record Reading : Type 0 where
  pub before : Option (List ℕ)
  pub after : Option (List ℕ)
  pub at_end : Bool

abbrev pub reading_of : Option (List ℕ) → Option (List ℕ) → Bool → Reading
reading_of before after at_end = record { before = before; after = after; at_end = at_end }

-- a source that was read to its end, and gave this file
pub record GivesFile (reading : Reading) (bytes : List ℕ) : Type 0 where
  pub given : Appends reading.before reading.after bytes
  pub ended : IsTrue reading.at_end
  pub short : length bytes ≤ max_file

-- a source that gave more than a file may have, by a piece at most
pub record GivesTooMuch (reading : Reading) : Type 0 where
  pub bytes : List ℕ
  pub given : Appends reading.before reading.after bytes
  pub long : max_file < length bytes
  pub little : length bytes ≤ max_file + piece

-- a source that gave nothing
abbrev pub IsUnread : Reading → Type 0
IsUnread reading = Keeps reading.before reading.after

-- a sink over a run: the bytes that it had taken before and has taken after (None where it can't tell)
pub record Writing : Type 0 where
  pub before : Option (List ℕ)
  pub after : Option (List ℕ)

abbrev pub writing_of : Option (List ℕ) → Option (List ℕ) → Writing
writing_of before after = record { before = before; after = after }

-- the bytes that a sink has taken, where there is one, and how many of its writes failed
abbrev pub taken_in : {S : Type 0} → (S → Option (List ℕ)) → Option S → Option (List ℕ)
taken_in taken None = Some []
taken_in taken (Some sink) = taken sink

abbrev pub failed_in : {S : Type 0} → (S → ℕ) → Option S → ℕ
failed_in failed None = 0
failed_in failed (Some sink) = failed sink

-- a sink that took nothing
abbrev pub IsUnwritten : Writing → Type 0
IsUnwritten writing = Keeps writing.before writing.after

-- each sink took its text
abbrev pub TakesAll : List Writing → List (List ℕ) → Type 0
TakesAll [] [] = Unit {0}
TakesAll (writing ∷ writings) (text ∷ texts) = Appends writing.before writing.after text × TakesAll writings texts
TakesAll _ _ = ⊥

-- some sinks took their texts, the next a beginning of its text, and the rest nothing
abbrev pub TakesBeginning : List Writing → List (List ℕ) → Type 0
TakesBeginning (writing ∷ writings) (text ∷ texts) =
    ((n : ℕ) × Appends writing.before writing.after (take n text) × All IsUnwritten writings) ⊎ (Appends writing.before writing.after text × TakesBeginning writings texts)
TakesBeginning _ _ = ⊥

-- what a run ends with: its status, and the text for each sink; the last sink takes the run's line
pub record Output : Type 0 where
  pub status : ℕ
  pub texts : List (List ℕ)

-- the last text is this line, and the others are empty
abbrev pub IsLineAlone : List ℕ → List (List ℕ) → Type 0
IsLineAlone line [] = ⊥
IsLineAlone line (text ∷ []) = text ≡ line
IsLineAlone line (text ∷ texts) = (text ≡ []) × IsLineAlone line texts

-- the output is this line with this status
abbrev pub IsLine : ℕ → List ℕ → Output → Type 0
IsLine status line output = (output.status ≡ status) × IsLineAlone line output.texts

-- what a command answers to the files that it has read, in the order of its words; nothing, where it goes on to the next file
abbrev pub Command : Type 1
Command = List (List ℕ) → Output → Type 0

-- to these files the command answers nothing yet
abbrev pub GoesOn : Command → List (List ℕ) → Type 0
GoesOn command files = (output : Output) → command files output → ⊥

-- the answer of a run that has read these files and has these sources left. It is what the command answers to the files, and the rest stays unread;
-- or, where that is nothing, the next source gave too much, and the rest stays unread; or the run read the next source's file and went on
abbrev pub Answers : Command → List (List ℕ) → List Reading → Output → Type 0
Answers command files [] output = command files output
Answers command files (reading ∷ readings) output =
    (command files output × IsUnread reading × All IsUnread readings)
    ⊎ (GoesOn command files × GivesTooMuch reading × All IsUnread readings × IsLine 3 (codes "too long\n") output)
    ⊎ ((bytes : List ℕ) × GivesFile reading bytes × Answers command (files ++ bytes ∷ []) readings output)

-- how far a run has gone in which a read failed, and which has read these files and has these sources left. The read is of the next source:
-- to the files the command answers nothing, and the rest stays unread; or the run read the next source's file and went on
abbrev pub BreaksOff : Command → List (List ℕ) → List Reading → Type 0
BreaksOff command files [] = ⊥
BreaksOff command files (reading ∷ readings) =
    (GoesOn command files × All IsUnread readings)
    ⊎ ((bytes : List ℕ) × GivesFile reading bytes × BreaksOff command (files ++ bytes ∷ []) readings)

-- the output is the command's answer, or the line that says that memory was refused
abbrev pub IsOutput : Command → List Reading → Output → Type 0
IsOutput command readings output = Answers command [] readings output ⊎ IsLine 7 (codes "no memory\n") output

-- the run ended with this status, and each sink took its text
pub record Ends (command : Command) (readings : List Reading) (writings : List Writing) (status : ℕ) : Type 0 where
  pub output : Output
  pub answer : IsOutput command readings output
  pub status_is : status ≡ output.status
  pub written : TakesAll writings output.texts

-- a write failed, and the sinks took a beginning of their texts
pub record EndsEarly (command : Command) (readings : List Reading) (writings : List Writing) : Type 0 where
  pub output : Output
  pub answer : IsOutput command readings output
  pub written : TakesBeginning writings output.texts

-- ---- a run over its sources and sinks

-- how many calls of a device had failed before a run, and have after it
pub record Failures : Type 0 where
  pub before : ℕ
  pub after : ℕ

-- a source over a run, and its reads that failed
pub record SourceRun : Type 0 where
  pub reading : Reading
  pub reads : Failures

abbrev pub source_over : {S : Type 0} → (S → Option (List ℕ)) → (S → ℕ) → (S → Bool) → S → S → SourceRun
source_over given failed is_at_end before after = record {
  reading = reading_of (given before) (given after) (is_at_end after);
  reads = record { before = failed before; after = failed after };
}

-- a sink over a run, and its writes that failed
pub record SinkRun : Type 0 where
  pub writing : Writing
  pub writes : Failures

abbrev pub sink_over : {S : Type 0} → (S → Option (List ℕ)) → (S → ℕ) → S → S → SinkRun
sink_over taken failed before after = record {
  writing = writing_of (taken before) (taken after);
  writes = record { before = failed before; after = failed after };
}

abbrev pub readings_of : List SourceRun → List Reading
readings_of sources = map (λ (source : SourceRun). source.reading) sources

abbrev pub reads_of : List SourceRun → List Failures
reads_of sources = map (λ (source : SourceRun). source.reads) sources

abbrev pub writings_of : List SinkRun → List Writing
writings_of sinks = map (λ (sink : SinkRun). sink.writing) sinks

abbrev pub writes_of : List SinkRun → List Failures
writes_of sinks = map (λ (sink : SinkRun). sink.writes) sinks

-- how many calls had failed before, and have after
abbrev pub failed_before : List Failures → ℕ
failed_before devices = sum_by (λ (calls : Failures). calls.before) devices

abbrev pub failed_after : List Failures → ℕ
failed_after devices = sum_by (λ (calls : Failures). calls.after) devices

-- no call of a device failed
abbrev pub NoneFailed : List Failures → Type 0
NoneFailed [] = Unit {0}
NoneFailed (calls ∷ []) = calls.after ≡ calls.before
NoneFailed (calls ∷ devices) = (calls.after ≡ calls.before) × NoneFailed devices

-- the sinks took nothing
abbrev pub AreUnwritten : List Writing → Type 0
AreUnwritten [] = Unit {0}
AreUnwritten (writing ∷ []) = IsUnwritten writing
AreUnwritten (writing ∷ writings) = IsUnwritten writing × AreUnwritten writings

-- a run over these sources and sinks ended with this status, and each sink took its text
abbrev pub EndsOver : Command → List SourceRun → List SinkRun → ℕ → Type 0
EndsOver command sources sinks status = Ends command (readings_of sources) (writings_of sinks) status

-- A run of a command over these sources and sinks ended with this status. It is that of the answer, which the sinks took whole, and no call failed; or
-- that of a device of which one call failed: where that was a read nothing was written, and where it was a write a beginning.
pub record RunsOver (command : Command) (sources : List SourceRun) (sinks : List SinkRun) (status : ℕ) : Type 0 where
  pub ended : status ≢ DEVICE → EndsOver command sources sinks status
  pub no_failure : status ≢ DEVICE → NoneFailed (reads_of sources) × NoneFailed (writes_of sinks)
  pub failure : status ≡ DEVICE
      → failed_after (reads_of sources) + failed_after (writes_of sinks) ≡ failed_before (reads_of sources) + failed_before (writes_of sinks) + 1
  pub read_failed : failed_after (reads_of sources) ≢ failed_before (reads_of sources)
      → AreUnwritten (writings_of sinks) × BreaksOff command [] (readings_of sources)
  pub write_failed : failed_after (writes_of sinks) ≢ failed_before (writes_of sinks) → EndsEarly command (readings_of sources) (writings_of sinks)
