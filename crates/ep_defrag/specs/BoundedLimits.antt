-- The limits of a bounded pool, and the constants of its memory.
use Rattle.std.specs.Prelude.{ℕ, ◌+◌, ◌*◌, max}
use Rattle.ep_defrag.specs.declared.bounded_limits.DefragLimits.{DefragLimits}
use Rattle.ep_defrag.specs.declared.bounded_limits.OverlapPolicy.TheVariants.{Discard}

-- greatest number of identifiers in the table; 0 counts as 1
abbrev pub most_names : DefragLimits → ℕ
most_names limits = max limits.streams 1

-- limits that `default` returns: IPv6 drops a datagram after 60 seconds (RFC 8200, 4.5), here of milliseconds
abbrev pub default_limits : DefragLimits
default_limits = record { streams = 4096; bytes = 33554432; payload = 65535; age = 60000; overlap = Discard }

-- memory of a pool with these limits, if an identifier takes `each` bytes besides the buffer of its stream
abbrev pub memory_of : ℕ → DefragLimits → ℕ
memory_of each limits = limits.bytes + each * most_names limits
