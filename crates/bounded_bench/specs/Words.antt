-- Words of the lines: the causes of evictions, and the policies for overlaps.
use Rattle.std.specs.Prelude.{ℕ, List, codes}
use Rattle.etherparse.specs.Types.EvictionCause.{EvictionCause}
use Rattle.etherparse.specs.Types.EvictionCause.TheVariants as cause
use Rattle.etherparse.specs.Types.OverlapPolicy.{OverlapPolicy}
use Rattle.etherparse.specs.Types.OverlapPolicy.TheVariants as policy

abbrev pub cause_text : EvictionCause → List ℕ
cause_text cause.Expired = codes "expired"
cause_text cause.Overlap = codes "overlap"
cause_text cause.Streams = codes "streams"
cause_text cause.Bytes = codes "bytes"

abbrev pub policy_text : OverlapPolicy → List ℕ
policy_text policy.LastWins = codes "last"
policy_text policy.FirstWins = codes "first"
policy_text policy.Discard = codes "discard"
