-- Texts of the replies to requests about fragments and drops.
use Rattle.std.specs.Prelude.{◌≡◌, ℕ, ◌⊎◌, List, [], ◌∷◌, codes}
use Rattle.std.specs.Fmt.{decimal}
use Rattle.etherparse.specs.Types.IpDefragError.{IpDefragError}
use Rattle.etherparse.specs.Types.IpDefragError.TheVariants.{UnalignedFragmentPayloadLen, SegmentTooBig, ConflictingEnd}
use Rattle.etherparse.specs.Types.IpDefragError.TheVariants.{AllocationFailure}
use Rattle.etherparse.specs.Calls.{Answer, fragment_refused, payload_returned, no_payload, streams_dropped}
use Rattle.etherparse.specs.Calls.{buffer_returned, answer_to}
use Rattle.etherparse.specs.Types.SliceError.{SliceError}
use Rattle.etherparse.specs.Frame.{IsFrame}
use Rattle.etherparse.specs.Layers.{Layers}
use Rattle.etherparse.specs.FrameRefusals.{RefusesFrame}
use Rattle.etherparse.specs.Types.Entry.{Entry}
use Rattle.line_io.specs.Lines.{words}
use Rattle.frame_bench.specs.LineCalls.{NumberCall, PoolHistory, frame_call, table_after_lines}
use Rattle.frame_bench.specs.SliceReplies.{hex_text, refusal_text}

-- text of a pool's error; an offset is in units of 8 bytes. An allocation failure has no text: it ends the run.
abbrev pub pool_error_text : IpDefragError → List ℕ
pool_error_text (SegmentTooBig offset len max) =
    words (codes "err" ∷ codes "too-big" ∷ decimal offset ∷ decimal len ∷ decimal max ∷ [])
pool_error_text (UnalignedFragmentPayloadLen offset len) =
    words (codes "err" ∷ codes "unaligned" ∷ decimal offset ∷ decimal len ∷ [])
pool_error_text (ConflictingEnd previous new) =
    words (codes "err" ∷ codes "conflict" ∷ decimal previous ∷ decimal new ∷ [])
pool_error_text (AllocationFailure len) = []

-- text of a pool's answer; that to a returned buffer has none, since no line returns one
abbrev pub pool_answer_text : Answer → List ℕ
pool_answer_text no_payload = codes "none"
pool_answer_text (payload_returned payload) =
    words (codes "payload" ∷ decimal payload.ip_number.0 ∷ hex_text payload.bytes ∷ [])
pool_answer_text (fragment_refused error) = pool_error_text error
pool_answer_text streams_dropped = codes "ok"
pool_answer_text buffer_returned = []

-- answer to a call on a pool with this history
abbrev pub call_reply : PoolHistory → NumberCall → List ℕ
call_reply history call = pool_answer_text (answer_to history.limit (table_after_lines history) call)

-- Holds if this is the reply about bytes that begin with a layer, on a pool with this history: the pool's answer to the
-- frame, or the error of bytes that are not a frame.
abbrev pub IsFragmentReply : PoolHistory → Entry → ℕ → ℕ → List ℕ → List ℕ → Type 0
IsFragmentReply history entry timestamp channel bytes reply =
    ((layers : Layers) × IsFrame entry bytes layers
    × (reply ≡ call_reply history (frame_call layers timestamp channel)))
    ⊎ ((error : SliceError) × RefusesFrame entry bytes error × (reply ≡ refusal_text error))
