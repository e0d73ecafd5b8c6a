-- How calls with frames of bytes are read, and the answers to lists of them.
use Rattle.std.proofs.Common.{◌≡◌, ℕ, zero, suc, Bool, List, [], ◌∷◌, ◌++◌, append_assoc, take, map, Some, slice_get}
use Rattle.std.proofs.Common.{Bor, inl, inr, refl, sym, ap, ◌∙◌}
use Rattle.std.specs.List.{All, AllZip}
use Rattle.std.specs.Option.{option_map}
use Rattle.std.proofs.lemmas.List.{append-nil}
use Rattle.std.proofs.lemmas.List.Elements.{recursion_from_All}
use Rattle.std.proofs.lemmas.Option.{slice_get-map}
use Rattle.ep_base.specs.Bytes.{AreBytes}
use Rattle.ep_base.specs.Tables.{IsDecided}
use Rattle.ep_packet.specs.declared.entry.Entry.{Entry}
use Rattle.ep_packet.specs.declared.err.slice_error.SliceError.{SliceError}
use Rattle.ep_packet.specs.Layers.{Layers}
use Rattle.ep_packet.specs.Frame.{IsFrame}
use Rattle.ep_packet.specs.FrameRefusals.{RefusesFrame}
use Rattle.ep_packet.specs.FrameFragments.{fragment_of}
use Rattle.ep_defrag.specs.declared.frame_run.FrameCall.{FrameCall}
use Rattle.ep_defrag.specs.declared.frame_run.FrameCall.TheVariants as frame
use Rattle.ep_defrag.specs.declared.frame_run.FrameAnswer.{FrameAnswer}
use Rattle.ep_defrag.specs.declared.ip_frag_id.IpFragId.{IpFragId}
use Rattle.ep_defrag.specs.declared.pool_run.PoolAnswer.{PoolAnswer}
use Rattle.ep_defrag.specs.declared.pool_run.PoolCall.{PoolCall}
use Rattle.ep_defrag.specs.Streams.{packet_fragment}
use Rattle.ep_defrag.specs.PayloadCuts.{IsCut}
use Rattle.ep_defrag.specs.Calls.{Call, gives_frame, drops_streams, returns_buffer, table_after, answers_after}
use Rattle.ep_defrag.specs.Calls.{answers_to, answer_to, accepted_at}
use Rattle.ep_defrag.specs.Pools.{plain_call, plain_answer}
use Rattle.ep_defrag.specs.FrameCalls.{ReadCall, calls_pool, refuses_frame, IsReadAs, IsOnlyRead, HasBytes, AreReadAs}
use Rattle.ep_defrag.specs.FrameCalls.{pool_calls, ReadAnswer, not_sliced, pool_answers, read_answer_to}
use Rattle.ep_defrag.specs.FrameCalls.{frame_answers_after, frame_answers_to, pool_answers_in, IfFramePayloadReturned}
use Rattle.ep_defrag.specs.FrameCalls.{read_answer, table_with_read}
use Rattle.ep_defrag.proofs.CallLemmas.{table_after-push}
use Rattle.ep_defrag.proofs.AloneLemmas.{handed_at}

module _ {T C V : Type 0} (entry : Entry) (bytes : Bor (List ℕ)) (timestamp : T) (channel : C)
    (decided : IsDecided (IsFrame entry bytes.now) (RefusesFrame entry bytes.now)) where
  -- A frame of these layers is read as their fragment, and in no other way.
  layers_only : (layers : Layers) → IsFrame entry bytes.now layers → (other : ReadCall T C V)
      → IsReadAs (frame.Frame entry bytes timestamp channel) other
      → other ≡ calls_pool (gives_frame (option_map packet_fragment (fragment_of layers)) timestamp channel)
  layers_only layers is (calls_pool brought) read =
      ap (λ (brought : Call T C V). calls_pool brought)
      (read.2
      ∙ ap (λ (found : Layers). gives_frame (option_map packet_fragment (fragment_of found)) timestamp channel)
      (decided.one_value read.0 layers read.1 is))
  layers_only layers is (refuses_frame error) refused = absurd (decided.not_both layers error is refused)

  pub layers_read : (layers : Layers) → IsFrame entry bytes.now layers
      → IsOnlyRead {V = V} (frame.Frame entry bytes timestamp channel)
      (calls_pool (gives_frame (option_map packet_fragment (fragment_of layers)) timestamp channel))
  layers_read layers is = record { is = (layers, is, refl); only = layers_only layers is }

  -- A rejected frame is read as rejected, and in no other way.
  refused_only : (error : SliceError) → RefusesFrame entry bytes.now error → (other : ReadCall T C V)
      → IsReadAs (frame.Frame entry bytes timestamp channel) other → other ≡ refuses_frame error
  refused_only error refused (calls_pool brought) read = absurd (decided.not_both read.0 error read.1 refused)
  refused_only error refused (refuses_frame other) also =
      ap (λ (error : SliceError). refuses_frame error) (decided.one_error other error also refused)

  pub refused_read : (error : SliceError) → RefusesFrame entry bytes.now error
      → IsOnlyRead {V = V} (frame.Frame entry bytes timestamp channel) (refuses_frame error)
  refused_read error refused = record { is = refused; only = refused_only error refused }

-- ---- lists of calls

-- A relation of two lists extends to one more pair at their ends.
pub AllZip-more : {A B : Type 0} (R : A → B → Type 0) (xs : List A) (ys : List B) (x : A) (y : B)
    → AllZip R xs ys → R x y → AllZip R (xs ++ x ∷ []) (ys ++ y ∷ [])
AllZip-more R [] [] x y all last = (last, tt)
AllZip-more R [] (other ∷ ys) x y all last = absurd all
AllZip-more R (first ∷ xs) [] x y all last = absurd all
AllZip-more R (first ∷ xs) (other ∷ ys) x y all last = (all.0, AllZip-more R xs ys x y all.1 last)

module _ {T C V : Type 0} where
  -- Each call whose frame consists of bytes is read in exactly one way.
  pub read_once : ((entry : Entry) (bytes : List ℕ) → AreBytes bytes
      → IsDecided (IsFrame entry bytes) (RefusesFrame entry bytes))
      → (call : FrameCall T C V) → HasBytes call → (read : ReadCall T C V) × IsOnlyRead call read
  read_once decided (frame.Frame entry bytes timestamp channel) are =
      let law = decided entry bytes.now are in
      elim law.some [
        | inl found ↦ (_, layers_read entry bytes timestamp channel law found.0 found.1)
        | inr refusal ↦
            (refuses_frame refusal.0, refused_read entry bytes timestamp channel law refusal.0 refusal.1)
      ]
  read_once decided (frame.Drop value) are =
      (calls_pool (drops_streams value), record { is = refl; only = λ other read. read })
  read_once decided (frame.Return buffer) are =
      (calls_pool returns_buffer, record { is = refl; only = λ other read. read })

  pub only_read : (calls : List (FrameCall T C V)) (reads : List (ReadCall T C V)) → AllZip IsOnlyRead calls reads
      → AreReadAs calls reads
  only_read [] [] all = tt
  only_read [] (read ∷ reads) all = absurd all
  only_read (call ∷ calls) [] all = absurd all
  only_read (call ∷ calls) (read ∷ reads) all = (all.0.is, only_read calls reads all.1)

  pub one_reading : (calls : List (FrameCall T C V)) (reads others : List (ReadCall T C V))
      → AllZip IsOnlyRead calls reads → AreReadAs calls others → others ≡ reads
  one_reading [] [] [] all also = refl
  one_reading [] [] (other ∷ others) all also = absurd also
  one_reading [] (read ∷ reads) others all also = absurd all
  one_reading (call ∷ calls) [] others all also = absurd all
  one_reading (call ∷ calls) (read ∷ reads) [] all also = absurd also
  one_reading (call ∷ calls) (read ∷ reads) (other ∷ others) all also =
      rw (all.0.only other also.0, one_reading calls reads others all.1 also.1) refl

  -- One more call at the end adds a call of the pool, or none for a rejected frame.
  pool_calls-push : (reads : List (ReadCall T C V)) (read : ReadCall T C V)
      → pool_calls (reads ++ read ∷ []) ≡ pool_calls reads ++ pool_calls (read ∷ [])
  pool_calls-push [] read = refl
  pool_calls-push (calls_pool brought ∷ reads) read =
      ap (λ calls. brought ∷ calls) (pool_calls-push reads read)
  pool_calls-push (refuses_frame error ∷ reads) read = pool_calls-push reads read

  -- The pool's answers are those to its calls alone.
  pub answers_in : (limit : ℕ) (eq : C → C → Bool) (keep : V → T → Bool) (earlier : List (Call T C V))
      (reads : List (ReadCall T C V)) → pool_answers_in (frame_answers_after limit eq keep earlier reads)
      ≡ answers_after limit eq keep earlier (pool_calls reads)
  answers_in limit eq keep earlier [] = refl
  answers_in limit eq keep earlier (calls_pool brought ∷ reads) =
      ap (λ answers. answer_to limit (table_after limit eq keep earlier) brought ∷ answers)
      (answers_in limit eq keep (earlier ++ brought ∷ []) reads)
  answers_in limit eq keep earlier (refuses_frame error ∷ reads) = answers_in limit eq keep earlier reads

module _ {T C V : Type 0} (limit : ℕ) (eq : C → C → Bool) (keep : V → T → Bool) where
  -- The table after one more call is the former table, changed by that call.
  pub table_after_read : (reads : List (ReadCall T C V)) (read : ReadCall T C V) (name : IpFragId C)
      → table_after limit eq keep (pool_calls (reads ++ read ∷ [])) name
      ≡ table_with_read limit eq keep (table_after limit eq keep (pool_calls reads)) read name
  table_after_read reads (calls_pool brought) name =
      rw (pool_calls-push reads (calls_pool brought)) (table_after-push limit eq keep (pool_calls reads) brought name)
  table_after_read reads (refuses_frame error) name =
      rw (pool_calls-push reads (refuses_frame error), append-nil (pool_calls reads)) refl

  -- One more call at the end has one more answer.
  pub frame_answers-push : (earlier : List (Call T C V)) (reads : List (ReadCall T C V)) (read : ReadCall T C V)
      → frame_answers_after limit eq keep earlier (reads ++ read ∷ [])
      ≡ frame_answers_after limit eq keep earlier reads
      ++ read_answer_to limit (table_after limit eq keep (earlier ++ pool_calls reads)) read ∷ []
  frame_answers-push earlier [] (calls_pool brought) = rw (append-nil earlier) refl
  frame_answers-push earlier [] (refuses_frame error) = refl
  frame_answers-push earlier (calls_pool first ∷ reads) read =
      ap (λ answers. pool_answers (answer_to limit (table_after limit eq keep earlier) first) ∷ answers)
      (frame_answers-push (earlier ++ first ∷ []) reads read
      ∙ ap (λ before. frame_answers_after limit eq keep (earlier ++ first ∷ []) reads
      ++ read_answer_to limit (table_after limit eq keep before) read ∷ [])
      (append_assoc earlier (first ∷ []) (pool_calls reads)))
  frame_answers-push earlier (refuses_frame error ∷ reads) read =
      ap (λ answers. not_sliced error ∷ answers) (frame_answers-push earlier reads read)

  -- The answer at an index is the answer to the call at that index.
  read_at : (earlier : List (Call T C V)) (reads : List (ReadCall T C V)) (at : ℕ) (brought : Call T C V)
      (answer : ReadAnswer) → slice_get reads at ≡ Some (calls_pool brought)
      → slice_get (frame_answers_after limit eq keep earlier reads) at ≡ Some answer
      → answer
      ≡ pool_answers (answer_to limit (table_after limit eq keep (earlier ++ pool_calls (take at reads))) brought)
  read_at earlier [] at brought answer is_call is_answer = absurd (cc)
  read_at earlier (calls_pool first ∷ reads) zero brought answer is_call is_answer =
      let same_call : first ≡ brought = cc in
      let same_answer : pool_answers (answer_to limit (table_after limit eq keep earlier) first) ≡ answer = cc in
      rw (append-nil earlier)
      (sym same_answer
      ∙ ap (λ brought. pool_answers (answer_to limit (table_after limit eq keep earlier) brought)) same_call)
  read_at earlier (refuses_frame error ∷ reads) zero brought answer is_call is_answer = absurd (cc)
  read_at earlier (calls_pool first ∷ reads) (suc at) brought answer is_call is_answer =
      read_at (earlier ++ first ∷ []) reads at brought answer is_call is_answer
      ∙ ap (λ before. pool_answers (answer_to limit (table_after limit eq keep before) brought))
      (append_assoc earlier (first ∷ []) (pool_calls (take at reads)))
  read_at earlier (refuses_frame error ∷ reads) (suc at) brought answer is_call is_answer =
      read_at earlier reads at brought answer is_call is_answer

  pub read_cuts_at : (reads : List (ReadCall T C V)) (answers : List FrameAnswer)
      → map read_answer answers ≡ frame_answers_to limit eq keep reads → (at : ℕ) (brought : Call T C V)
      (answer : FrameAnswer) → slice_get reads at ≡ Some (calls_pool brought)
      → slice_get answers at ≡ Some answer → (payload : List ℕ)
      → All (IsCut payload) (accepted_at (table_after limit eq keep (pool_calls (take at reads))) brought)
      → IfFramePayloadReturned (read_answer answer) (λ handed. handed.bytes ≡ payload)
  read_cuts_at reads answers same at brought answer is_call is_answer payload cuts =
      let answer_is : slice_get (frame_answers_to limit eq keep reads) at ≡ Some (read_answer answer) =
      ap (λ answers. slice_get answers at) (sym same) ∙ slice_get-map read_answer answers at
      ∙ ap (option_map read_answer) is_answer in
      rw (read_at [] reads at brought (read_answer answer) is_call answer_is)
      (handed_at payload limit (table_after limit eq keep (pool_calls (take at reads))) brought
      (recursion_from_All (IsCut payload) _ cuts))

-- ---- calls of the pool, read unchanged
module _ {T C V : Type 0} where
  -- Holds if a call is read as itself.
  abbrev pub IsCalled : PoolCall T C V → ReadCall T C V → Type 0
  IsCalled call read = read ≡ calls_pool (plain_call call)

  pub calls_read : (calls : List (PoolCall T C V)) (reads : List (ReadCall T C V)) → AllZip IsCalled calls reads
      → pool_calls reads ≡ map plain_call calls
  calls_read [] [] all = refl
  calls_read [] (read ∷ reads) all = absurd all
  calls_read (call ∷ calls) [] all = absurd all
  calls_read (call ∷ calls) (read ∷ reads) all =
      rw all.0 (ap (λ brought. plain_call call ∷ brought) (calls_read calls reads all.1))

-- answer of the pool to such a call
abbrev pub pool_says : PoolAnswer → ReadAnswer
pool_says answer = pool_answers (plain_answer answer)

pool_answers_stated : (answers : List PoolAnswer) → pool_answers_in (map pool_says answers) ≡ map plain_answer answers
pool_answers_stated [] = refl
pool_answers_stated (answer ∷ answers) = ap (λ stated. plain_answer answer ∷ stated) (pool_answers_stated answers)

pub calls_answered : {T C V : Type 0} (limit : ℕ) (eq : C → C → Bool) (keep : V → T → Bool)
    (reads : List (ReadCall T C V)) (answers : List PoolAnswer)
    → map pool_says answers ≡ frame_answers_to limit eq keep reads
    → map plain_answer answers ≡ answers_to limit eq keep (pool_calls reads)
calls_answered limit eq keep reads answers same =
    sym (pool_answers_stated answers) ∙ ap pool_answers_in same ∙ answers_in limit eq keep [] reads
