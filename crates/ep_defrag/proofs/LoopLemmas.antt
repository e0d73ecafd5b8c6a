-- Calls answered in turn, of whatever type: the state after some of them, and after one more.
use Rattle.std.proofs.Common.{rules, ◌≡◌, ℕ, ◌<◌, ◌≤◌, Bool, Bor, List, [], ◌∷◌, ◌++◌, append_assoc, Option, None, map}
use Rattle.std.proofs.Common.{length, take, get_or, IsFalse, sym, ap, ◌∙◌, arith}
use Rattle.std.specs.Fn.{Shared}
use Rattle.std.specs.List.{All, AllZip}
use Rattle.std.proofs.lemmas.List.{map-append, length_push, length-append}
use Rattle.std.proofs.lemmas.List.Elements.{All-push}
use Rattle.ep_defrag.specs.declared.ip_frag_id.IpFragId.{IpFragId}
use Rattle.ep_defrag.specs.declared.ip_defrag_pool.IpDefragPool.{IpDefragPool}
use Rattle.ep_defrag.specs.Calls.{Kept, table_after}
use Rattle.ep_defrag.specs.Pools.{limit_of, HoldsTable, IsDecidedBy}
use Rattle.ep_defrag.specs.FrameCalls.{ReadCall, pool_calls, ReadAnswer, frame_answers_to, read_answer_to}
use Rattle.ep_defrag.specs.FrameCalls.{table_with_read}
use Rattle.ep_defrag.proofs.FrameLemmas.{AllZip-more, table_after_read, frame_answers-push}
use Rattle.ep_defrag.proofs.PoolTableLemmas.{HoldsTable-same}
use Rattle.ep_defrag.proofs.ListLemmas.{all_taken, before_and_at}

abbrev Table : Type 0 → Type 0 → Type 0
Table T C = IpFragId C → Option (Kept T)

module _ {F T C V X Y : Type 0} (asks : Shared F (Bor V × (Bor T × Unit {0})) Bool) (keep : F) (eq : C → C → Bool)
    (max : ℕ) (IsRead : X → ReadCall T C V → Type 0) (printed : Y → ReadAnswer) (wants : Y → Bool) where
  -- The calls so far are read and answered, without an allocation failure, and the pool holds their table; there is
  -- capacity for the answers to the remaining ones.
  pub record Answered (calls taken left : List X) (answers : List Y) (space : ℕ) (pool : IpDefragPool T C) : Type 0 where
    pub reads : List (ReadCall T C V)
    pub each : AllZip IsRead taken reads
    pub answered : (decide : V → T → Bool) → IsDecidedBy asks keep decide
        → map printed answers ≡ frame_answers_to max eq decide reads
    pub held : (decide : V → T → Bool) → IsDecidedBy asks keep decide
        → HoldsTable eq pool (table_after max eq decide (pool_calls reads))
    pub limit : limit_of pool ≡ max
    pub no_memory : All (λ answer. IsFalse (wants answer)) answers
    pub whole : taken ++ left ≡ calls
    pub counted : length answers ≡ length taken
    pub enough : length calls ≤ space

  -- A call that is read in this way has this answer.
  pub record Answers (old new : IpDefragPool T C) (read : ReadCall T C V) (answer : Y) : Type 0 where
    pub stated : (table : Table T C) → HoldsTable eq old table → printed answer ≡ read_answer_to (limit_of old) table read
    pub holds : (decide : V → T → Bool) → IsDecidedBy asks keep decide → (table : Table T C) → HoldsTable eq old table
        → HoldsTable eq new (table_with_read (limit_of old) eq decide table read)
    pub limit : limit_of new ≡ limit_of old
    pub no_memory : IsFalse (wants answer)

module _ {F T C V X Y : Type 0} {asks : Shared F (Bor V × (Bor T × Unit {0})) Bool} {keep : F} {eq : C → C → Bool}
    {max : ℕ} {IsRead : X → ReadCall T C V → Type 0} {printed : Y → ReadAnswer} {wants : Y → Bool} where
  -- The state holds before the first call.
  pub answered_none : {calls left : List X} {answers : List Y} {space : ℕ} {pool : IpDefragPool T C} → answers ≡ []
      → left ≡ calls → length calls ≤ space → HoldsTable eq pool (λ name. None) → limit_of pool ≡ max
      → Answered asks keep eq max IsRead printed wants calls [] left answers space pool
  answered_none none all enough holds_table limit = record {
    reads = [];
    each = tt;
    answered = λ decide decided. ap (map printed) none;
    held = λ decide decided. holds_table;
    limit = limit;
    no_memory = rw none (search rules);
    whole = all;
    counted = ap length none;
    enough = enough;
  }

module _ {F T C V X Y : Type 0} {asks : Shared F (Bor V × (Bor T × Unit {0})) Bool} {keep : F} {eq : C → C → Bool}
    {max : ℕ} {IsRead : X → ReadCall T C V → Type 0} {printed : Y → ReadAnswer} {wants : Y → Bool}
    {calls taken left : List X} {answers : List Y} {space : ℕ} {pool : IpDefragPool T C}
    (known : Answered asks keep eq max IsRead printed wants calls taken left answers space pool) where
  -- If no call is left, all were taken.
  pub answered_all : length left ≡ 0 → taken ≡ calls
  answered_all none = all_taken taken left calls known.whole none

  module _ (call : X) (later : List X) (first : left ≡ call ∷ later) where
    all_are : taken ++ call ∷ later ≡ calls
    all_are = ap (λ rest. taken ++ rest) (sym first) ∙ known.whole

    -- If a call is left, there are fewer answers than calls.
    pub some_left : length answers < length calls
    some_left = omega (arith, known.counted, ap length all_are, length-append taken (call ∷ later))

    -- There is capacity for the answer to the next call.
    pub has_space : length answers < space
    has_space = omega (arith, known.enough, some_left)

    -- The next call follows the answered ones.
    pub next_at : (d : X) → (take (length answers) calls ≡ taken) × (get_or calls (length answers) d ≡ call)
    next_at d = rw (known.counted, ← all_are) (before_and_at taken later call d)

    -- The state holds after one more call.
    pub answered_more : {read : ReadCall T C V} {answer : Y} {all : List Y} {more : ℕ} {new : IpDefragPool T C}
        → IsRead call read → Answers asks keep eq max IsRead printed wants pool new read answer
        → all ≡ answers ++ answer ∷ [] → space ≤ more
        → Answered asks keep eq max IsRead printed wants calls (taken ++ call ∷ []) later all more new
    answered_more {read} {answer} {all} {more} {new} is step pushed wider = record {
      reads = known.reads ++ read ∷ [];
      each = AllZip-more IsRead taken known.reads call read known.each is;
      answered = λ decide decided.
          ap (map printed) pushed
          ∙ map-append printed answers (answer ∷ [])
          ∙ ap (λ before. before ++ printed answer ∷ []) (known.answered decide decided)
          ∙ ap (λ last. frame_answers_to max eq decide known.reads ++ last ∷ [])
          (rw known.limit
          at (step.stated (table_after max eq decide (pool_calls known.reads)) (known.held decide decided)))
          ∙ sym (frame_answers-push max eq decide [] known.reads read);
      held = λ decide decided.
          HoldsTable-same eq new _ _ (λ name. sym (table_after_read max eq decide known.reads read name))
          (rw known.limit
          at (step.holds decide decided (table_after max eq decide (pool_calls known.reads))
          (known.held decide decided)));
      limit = step.limit ∙ known.limit;
      no_memory = rw pushed
          (All-push (λ (answer : Y). IsFalse (wants answer)) answers answer known.no_memory step.no_memory);
      whole = append_assoc taken (call ∷ []) later ∙ all_are;
      counted = rw pushed (omega (arith, known.counted, length_push answers answer, length_push taken call));
      enough = omega (arith, known.enough, wider);
    }
