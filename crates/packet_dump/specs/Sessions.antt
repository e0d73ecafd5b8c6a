-- State between two chunks of a capture.
use Rattle.std.specs.Prelude.{◌≡◌, ℕ, ◌+◌, ◌≤◌, nat_eq, Bool, true, false, List, [], ◌∷◌, ◌++◌, Some}
use Rattle.capture_reader.specs.Captures.{IsCapture, Item, PlainShown, RefusesCapture, Stage, at_start, shown_in}
use Rattle.capture_reader.specs.Captures.{stage_after, stage_after_items}
use Rattle.capture_reader.specs.Readers.{Reads, ReadsMore, reader_offset, reader_shown, reader_unread}
use Rattle.capture_reader.specs.declared.reader.CaptureReader.{CaptureReader}
use Rattle.etherparse.specs.BoundedPools.{HoldsRows, limits_in, statistics_in}
use Rattle.packet_dump.specs.DecodedPackets.{AreDecoded, DecodedPacket, IsDecoded, IsPacketAfter, Progress, none_read}
use Rattle.packet_dump.specs.DecodedPackets.{packets_in, progress_after_items, progress_with}
use Rattle.packet_dump.specs.Decoding.{layers_of, packet_of}
use Rattle.packet_dump.specs.Dumps.{AreAllLines, AreFewer, Begin}
use Rattle.packet_dump.specs.PacketCalls.{PoolHistory, fragment_in_frame, new_pool}
use Rattle.packet_dump.specs.PacketLines.{line_of}
use Rattle.packet_dump.specs.PoolLines.{PassesIfFragment, PassesPacket}
use Rattle.packet_dump.specs.Saves.{GoesOn, Saves, asks, new_state}
use Rattle.packet_dump.specs.Summaries.{PlainSummary, counted_all, counted_one, new_summary, plain_of}
use Rattle.packet_dump.specs.declared.decoded.Decoded.{Decoded}
use Rattle.packet_dump.specs.declared.dump_options.DumpOptions.{DumpOptions}
use Rattle.packet_dump.specs.declared.ending.Ending.{Ending}
use Rattle.packet_dump.specs.declared.ending.Ending.TheVariants as ending
use Rattle.packet_dump.specs.declared.pooling.Pooling.{Pooling}
use Rattle.packet_dump.specs.declared.session.CaptureState.{CaptureState}
use Rattle.packet_dump.specs.declared.session.CaptureState.TheVariants.{MayEnd, Enough, Cut, Refused}
use Rattle.packet_dump.specs.declared.session.Session.{Session}

-- The pool has this history.
pub record HoldsPooling (history : PoolHistory) (pooling : Pooling) : Type 0 where
  pub limits : limits_in pooling.pool ≡ history.limits
  pub swept : pooling.swept ≡ history.swept
  pub rows : HoldsRows nat_eq pooling.pool history.rows
  pub statistics : statistics_in pooling.pool ≡ history.statistics

-- A packet that is a frame was passed to a pool of this history, after which the pool is `new`, and the lines of what
-- the pool does were appended. Old streams have expired before.
abbrev pub ProcessesFrame : DumpOptions → Decoded → PoolHistory → Pooling → (items next_items : List ℕ) → Type 0
ProcessesFrame options decoded before new items next_items =
    (text : List ℕ) × (after : PoolHistory)
    × PassesIfFragment options before (packet_of decoded) (layers_of decoded) (fragment_in_frame (layers_of decoded))
    text after
    × HoldsPooling after new × (next_items ≡ items ++ text)

-- the progress of a session at this stage of the capture
abbrev pub progress_of : Stage → Session → Progress
progress_of stage session =
    record { stage = stage; number = session.number; first = session.first; latest = session.latest }

-- The session has these options, took these bytes, and read these items from them, whose packets are decoded. It has
-- their number of packets, which is no more than wanted, and their first and latest timestamp. The pool has this
-- history.
pub record HasRead (options : DumpOptions) (session : Session) (read : List ℕ) (items : List Item)
    (packets : List DecodedPacket) (history : PoolHistory) : Type 0 where
  pub options_is : session.options ≡ options
  pub reads : Reads session.capture read items
  pub within : session.number ≤ options.most
  pub progress : progress_after_items none_read items ≡ progress_of (stage_after_items at_start items) session
  pub decoded : AreDecoded options none_read items packets
  pub pooled : HoldsPooling history session.pooling

-- the number of bytes that were taken
abbrev pub taken_by : Session → ℕ
taken_by session = reader_offset session.capture + reader_unread session.capture

-- The number of packets is not greater than the number of bytes that were read.
abbrev pub Counts : Session → Type 0
Counts session = session.number ≤ reader_offset session.capture

-- The capture has this state after these bytes, given the items read from them.
abbrev pub HasState : DumpOptions → CaptureState → List ℕ → List Item → Type 0
HasState options MayEnd read items = AreFewer options items × IsCapture read items
HasState options Enough read items = Begin read items × (packets_in items ≡ options.most)
HasState options (Cut error) read items = AreFewer options items × RefusesCapture read (items, error)
HasState options (Refused error) read items =
    AreFewer options items × ((more : List ℕ) → RefusesCapture (read ++ more) (items, error))

-- ---- results

-- the start of a run and its results written so far: the summary before any packet, whether a capture file is wanted,
-- the lines that were written, and the bytes that were written to the capture file
pub record Written : Type 0 where
  pub start : PlainSummary
  pub wanted : Bool
  pub lines : List ℕ
  pub saved : List ℕ

-- The session took these bytes and processed the packets in them: the lines that were written are theirs, the summary
-- counts them, and the capture file has them, in the bytes that were written and then those that are pending.
pub record HasProcessed (options : DumpOptions) (session : Session) (read : List ℕ) (written : Written) : Type 0 where
  pub items : List Item
  pub packets : List DecodedPacket
  pub history : PoolHistory
  pub has_read : HasRead options session read items packets history
  pub lines : AreAllLines options packets written.lines history
  pub counted : plain_of session.summary ≡ counted_all packets written.start
  pub saves : Saves options written.wanted false session.saving.state packets
      (written.saved ++ session.saving.bytes.items)

-- the results written so far, with these lines after them
abbrev pub with_lines : Written → List ℕ → Written
with_lines written lines = record written { lines = written.lines ++ lines }

-- The packets that the session took were processed, their lines are pending, and the capture has this state.
abbrev pub Drains : DumpOptions → Session → CaptureState → List ℕ → Written → Type 0
Drains options session capture_state read written =
    (processed : HasProcessed options session read (with_lines written session.output.items))
    × HasState options capture_state read processed.items

-- The session's parser has read one packet more than the session has processed, from these bytes: with `parser`, as it
-- was before that packet, the session has processed the packets in them, and their lines are pending.
pub record HasParsed (options : DumpOptions) (session : Session) (read : List ℕ) (written : Written) : Type 0 where
  pub parser : CaptureReader
  pub processed : HasProcessed options (record session { capture = parser }) read
      (with_lines written session.output.items)
  pub item : Item
  pub reads : ReadsMore session.capture read processed.items item
  pub shows : shown_in (stage_after_items at_start processed.items) item ≡ Some (reader_shown session.capture)

-- A packet of the capture was decoded, saved and counted, and its line appended; the pool has the history after it.
pub record ProcessesPacket (old new : Session) (before : PoolHistory) (shown : PlainShown) : Type 0 where
  pub one : DecodedPacket
  pub answer : List ℕ
  pub after : PoolHistory
  pub options : new.options ≡ old.options
  pub decoded : IsDecoded old.options one
  pub follows : (stage : Stage) → IsPacketAfter (progress_of stage old) shown one
  pub passes : PassesPacket old.options before one answer after
  pub pooled : HoldsPooling after new.pooling
  pub output : new.output.items ≡ old.output.items ++ line_of old.options one ++ answer
  pub counted : plain_of new.summary ≡ counted_one one (plain_of old.summary)
  pub saves : (packets : List DecodedPacket) → GoesOn old.options old.saving new.saving packets (packets ++ one ∷ [])
  pub progress : (stage : Stage) (item : Item)
      → progress_with (progress_of stage old) item (Some shown) ≡ progress_of (stage_after stage item) new

-- The session is that of a run before any byte is read, and nothing was added to the capture file.
pub record IsUnread (session : Session) : Type 0 where
  pub read : HasRead session.options session [] [] [] (new_pool session.options)
  pub taken : taken_by session ≡ 0
  pub state : session.saving.state ≡ new_state (asks session.saving.state)
  pub bytes : session.saving.bytes.items ≡ []

-- The session is that of a run before any byte is read, and its summary counts no packet.
pub record IsNew (session : Session) : Type 0 where
  pub unread : IsUnread session
  pub summary : plain_of session.summary ≡ new_summary session.summary.wanted session.options.quiet

-- True if a run ends in this state of the capture, given whether its reader has ended.
abbrev pub ends_run : CaptureState → Bool → Bool
ends_run MayEnd ended = ended
ends_run Enough ended = true
ends_run (Cut error) ended = ended
ends_run (Refused error) ended = true

-- the ending of a run in this state of the capture, given the number of packets
abbrev pub ending_of : CaptureState → ℕ → Ending
ending_of MayEnd packets = ending.Complete
ending_of Enough packets = ending.Enough
ending_of (Cut error) packets = ending.Broken packets error
ending_of (Refused error) packets = ending.Broken packets error
