-- Counters of a bounded pool as names leave it.
use Rattle.std.proofs.Common.{◌≡◌, ℕ, ◌+◌, ◌^◌, ◌<◌, Bool, true, false, ◌&&◌, cond, List, [], ◌∷◌, map, Option, Some, None, is_some}
use Rattle.std.proofs.Common.{refl, sym, ap, arith}
use Rattle.std.specs.List.{count_by}
use Rattle.std.proofs.lemmas.List.Sums.{sum_by-cons}
use Rattle.ep_defrag.specs.declared.ip_defrag_buf.IpDefragBuf.{IpDefragBuf}
use Rattle.ep_defrag.specs.declared.defrag_statistics.DefragStatistics.{DefragStatistics}
use Rattle.ep_defrag.specs.declared.departure.Departure.TheVariants.{Removed, Evicted}
use Rattle.ep_defrag.specs.declared.evicted_stream.EvictionCause.{EvictionCause}
use Rattle.ep_defrag.specs.declared.evicted_stream.EvictionCause.TheVariants.{Expired}
use Rattle.ep_defrag.specs.BoundedSteps.{Row, is_open, Gone, gone_for}
use Rattle.ep_defrag.specs.BoundedCounts.{counted, count_gone, FitCounters}
use Rattle.ep_defrag.specs.BoundedHoldings.{after_departure}

-- ---- one name
pub counted_none : (count : ℕ) → count < 2 ^ 64 → counted count 0 ≡ count
counted_none count fits = omega arith

-- The counter of removed streams after a name was removed, and streams are still to be counted.
pub counted_removed : (old : DefragStatistics) (buffer : Option IpDefragBuf) (streams : ℕ)
    → counted (after_departure old buffer Removed).removed streams
    ≡ counted old.removed (cond (is_some buffer) 1 0 + streams)
counted_removed old None streams = omega arith
counted_removed old (Some buffer) streams = omega arith

pub other_than_removed : (old : DefragStatistics) (buffer : Option IpDefragBuf) (removed : ℕ)
    → record (after_departure old buffer Removed) { removed = removed } ≡ record old { removed = removed }
other_than_removed old None removed = refl
other_than_removed old (Some buffer) removed = refl

-- The counter of expired streams after a name was evicted for its age.
pub counted_expired : (old : DefragStatistics) (buffer : Option IpDefragBuf) (before : ℕ)
    → after_departure (record old { expired = counted old.expired before }) buffer (Evicted Expired)
    ≡ record old { expired = counted old.expired (cond (is_some buffer) 1 0 + before) }
counted_expired old None before =
    let same : counted old.expired before ≡ counted old.expired (0 + before) = omega arith in
    λ i. record old { expired = same i }
counted_expired old (Some buffer) before =
    let same : counted (counted old.expired before) 1 ≡ counted old.expired (1 + before) = omega arith in
    λ i. record old { expired = same i }

-- ---- a step
pub removed_only : (old : DefragStatistics) → FitCounters old → (removed : ℕ)
    → record old { removed = removed } ≡ record old { expired = counted old.expired 0; removed = removed }
removed_only old fit removed =
    λ i. record old { expired = sym (counted_none old.expired fit.expired) i; removed = removed }

pub removed_once : (old : DefragStatistics) → FitCounters old → (buffer : Option IpDefragBuf)
    → after_departure old buffer Removed ≡ record old { removed = counted old.removed (cond (is_some buffer) 1 0) }
removed_once old fit None = λ i. record old { removed = sym (counted_none old.removed fit.removed) i }
removed_once old fit (Some buffer) = refl

pub expired_only : (old : DefragStatistics) → FitCounters old → (expired : ℕ)
    → record old { expired = expired } ≡ record old { expired = expired; removed = counted old.removed 0 }
expired_only old fit expired =
    λ i. record old { expired = expired; removed = sym (counted_none old.removed fit.removed) i }

-- ---- causes of evictions
module _ {C : Type 0} (is_cause : EvictionCause → Bool) where
  pub all_gone : is_cause Expired ≡ true → (rows : List (Row C))
      → count_gone is_cause (map (gone_for Expired) rows) ≡ count_by is_open rows
  all_gone is [] = refl
  all_gone is (row ∷ rows) =
      omega (
        arith,
        sum_by-cons (λ (one : Gone C). cond (is_cause one.cause && is_open one.row) 1 0) (gone_for Expired row)
            (map (gone_for Expired) rows),
        sum_by-cons (λ (one : Row C). cond (is_open one) 1 0) row rows,
        ap {B = ℕ} (λ b. cond (b && is_open row) 1 0) is,
        all_gone is rows,
      )

  pub none_gone : is_cause Expired ≡ false → (rows : List (Row C))
      → count_gone is_cause (map (gone_for Expired) rows) ≡ 0
  none_gone is [] = refl
  none_gone is (row ∷ rows) =
      omega (
        arith,
        sum_by-cons (λ (one : Gone C). cond (is_cause one.cause && is_open one.row) 1 0) (gone_for Expired row)
            (map (gone_for Expired) rows),
        ap {B = ℕ} (λ b. cond (b && is_open row) 1 0) is,
        none_gone is rows,
      )
