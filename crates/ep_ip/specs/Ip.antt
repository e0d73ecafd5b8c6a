-- Definitions that IPv4 and IPv6 share.
use Rattle.std.specs.Prelude.{ℕ, ◌/◌, List, slice_index}

-- the IP version: the upper 4 bits of the first byte
abbrev pub version_of : List ℕ → ℕ
version_of bytes = slice_index bytes 0 / 16
