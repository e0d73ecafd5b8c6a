-- Ranges of positions in a payload.
use Rattle.std.specs.Prelude.{ℕ, min, max, Bool, true, ◌&&◌, ◌||◌, nat_le, nat_lt, IsTrue, if◌then◌else◌, Option, Some}
use Rattle.std.specs.Prelude.{None, List, [], ◌∷◌}
use Rattle.ep_defrag.specs.declared.ip_frag_range.IpFragRange.{IpFragRange}

-- whether the position is in the range: from its start on and below its end
abbrev pub has_byte : ℕ → IpFragRange → Bool
has_byte position range = nat_le range.start position && nat_lt position range.end

-- whether the position is from the start on up to the end, the end included: a position before, between or after the
-- bytes
abbrev pub touches : ℕ → IpFragRange → Bool
touches position range = nat_le range.start position && nat_le position range.end

-- whether a start or end of one is between start and end of the other, both included
abbrev pub merges : IpFragRange → IpFragRange → Bool
merges a b = touches b.start a || touches b.end a || touches a.start b || touches a.end b

-- range from the lesser start to the greater end
abbrev pub hull : IpFragRange → IpFragRange → IpFragRange
hull a b = record { start = min a.start b.start; end = max a.end b.end }

-- the two as one range, if they merge
abbrev pub merge_of : IpFragRange → IpFragRange → Option IpFragRange
merge_of a b = if merges a b then Some (hull a b) else None

-- Holds if some position touches both ranges.
abbrev pub SharePoint : IpFragRange → IpFragRange → Type 0
SharePoint a b = (position : ℕ) × IsTrue (touches position a) × IsTrue (touches position b)

-- whether the ranges are in order and separated: none is reversed, and each start is above the end of the range before
-- it, so that no position touches two of them
abbrev pub are_separate : List IpFragRange → Bool
are_separate [] = true
are_separate (range ∷ []) = nat_le range.start range.end
are_separate (range ∷ next ∷ later) =
    nat_le range.start range.end && nat_lt range.end next.start && are_separate (next ∷ later)

-- Holds if the ranges are in order and separated.
abbrev pub AreSeparate : List IpFragRange → Type 0
AreSeparate ranges = IsTrue (are_separate ranges)
