use Rattle.ep_defrag.proofs.EqualLemmas.{alike_from_same, same_from_alike, touch_from_fill}
use Rattle.ep_defrag.proofs.laws.equal_buffers.Goals as goal

pub returns-clause-contents : goal.returns-clause-contents
returns-clause-contents c a b fragments others number holds holds' =
    let equal = c.comparisons.ensures.equal_buffers a b in (
      λ same. alike_from_same a b fragments others holds holds' (equal.0 same),
      λ alike. equal.1 (same_from_alike a b fragments others number holds holds' alike.0 alike.1),
    )

pub returns-clause-not_empty : goal.returns-clause-not_empty
returns-clause-not_empty c a b fragments others number holds holds' all all' =
    let equal = c.comparisons.ensures.equal_buffers a b in (
      λ same. (alike_from_same a b fragments others holds holds' (equal.0 same)).0,
      λ alike. equal.1
          (same_from_alike a b fragments others number holds holds' alike
          (touch_from_fill fragments others alike all all')),
    )
