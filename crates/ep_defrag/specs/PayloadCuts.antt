-- Fragments that a payload is cut into.
use Rattle.std.specs.Prelude.{◌≡◌, ℕ, ◌≤◌, IsTrue, List, length, slice_range}
use Rattle.ep_defrag.specs.IpFragments.{IpFragment, is_final, fragment_start, fragment_end}

-- Holds if the fragment is within the payload and has its bytes, and ends at its end if it is final.
pub record IsCut (payload : List ℕ) (fragment : IpFragment) : Type 0 where
  pub within : fragment_end fragment ≤ length payload
  pub same : fragment.bytes ≡ slice_range payload (fragment_start fragment) (fragment_end fragment)
  pub last : IsTrue (is_final fragment) → fragment_end fragment ≡ length payload
