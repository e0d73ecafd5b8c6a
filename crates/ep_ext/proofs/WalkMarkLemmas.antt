-- Marks of a walk along the IPv6 extension headers: none at the start, and how many are still unset.
use Rattle.std.specs.Prelude.{ℕ, ◌+◌, Bool, true, false, if◌then◌else◌}
use Rattle.ep_ext.specs.declared.ipv6_exts_walk.VisitedHeaders.{VisitedHeaders}

-- The marks before any header is visited.
abbrev pub no_marks : VisitedHeaders
no_marks = record {
  any = false;
  hop_by_hop = false;
  destination_options = false;
  routing = false;
  fragment = false;
  auth = false;
  final_destination_options = false;
}

-- 1 without a mark, 0 with it.
abbrev pub unmarked : Bool → ℕ
unmarked true = 0
unmarked false = 1

-- The number of headers that can still be visited.
abbrev pub marks_left : VisitedHeaders → ℕ
marks_left marks =
    unmarked marks.hop_by_hop + unmarked marks.destination_options + unmarked marks.fragment + unmarked marks.auth
    + (if marks.routing then unmarked marks.final_destination_options else 2)
