-- The program's pool after the calls of lines.
use Rattle.std.proofs.Common.{◌≡◌, ℕ, nat_eq, List, [], ◌∷◌, ◌++◌, None, refl, subst}
use Rattle.std.specs.Prelude.{Result, Ok, Err, OnOk}
use Rattle.etherparse.specs.Types.IpDefragPool.{IpDefragPool}
use Rattle.etherparse.specs.Pools.{limit_of, HoldsTable}
use Rattle.frame_bench.specs.LineCalls.{PoolHistory, new_pool, IsAfterLine, IsAfterLines, IsHistory, HoldsHistory}
use Rattle.frame_bench.specs.LineCalls.{HoldsLines}

-- A fact holds if the result is Ok.
pub at_ok : {T E P : Type 0} (r : Result T E) → P → OnOk r P
at_ok (Ok x) p = p
at_ok (Err e) p = tt

-- A new pool is in the state after the request for it.
pub HoldsHistory-new : (pool : IpDefragPool ℕ ℕ) (limit : ℕ) → limit_of pool ≡ limit
    → HoldsTable nat_eq pool (λ name. None) → HoldsHistory (new_pool limit) pool
HoldsHistory-new pool limit is empty = record { limit = is; table = empty }

-- The history after some lines and one more is that of the one line after that of the others.
IsAfterLines-push : (lines : List (List ℕ)) (line : List ℕ) (before history after : PoolHistory)
    → IsAfterLines before lines history → IsAfterLine history line after
    → IsAfterLines before (lines ++ line ∷ []) after
IsAfterLines-push [] line before history after same makes =
    (after, subst (λ (h : PoolHistory). IsAfterLine h line after) same makes, refl)
IsAfterLines-push (first ∷ lines) line before history after (next, is_first, is_others) makes =
    (next, is_first, IsAfterLines-push lines line next history after is_others makes)

pub HoldsLines-push : (lines : List (List ℕ)) (line : List ℕ) (history after : PoolHistory)
    (pool : IpDefragPool ℕ ℕ) → IsHistory lines history → IsAfterLine history line after → HoldsHistory after pool
    → HoldsLines (lines ++ line ∷ []) pool
HoldsLines-push lines line history after pool are makes kept =
    (after, IsAfterLines-push lines line (new_pool 65535) history after are makes, kept)
