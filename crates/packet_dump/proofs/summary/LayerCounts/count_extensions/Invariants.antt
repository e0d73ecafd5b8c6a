use Rattle.std.proofs.Common.{◌≡◌, drop, map}
use Rattle.etherparse.specs.LaxViews.{lax_extension_of}
use Rattle.packet_dump.specs.Summaries.{with_extensions}
use Rattle.packet_dump.proofs.summary.LayerCounts.count_extensions.Given as goal

-- The counts so far, with those of the remaining extensions, are the counts of all.
abbrev pub invariant-loop-extension : goal.invariant-loop-extension
invariant-loop-extension l =
    with_extensions (map lax_extension_of (drop l.extension-index l.extensions)) l.self
    ≡ with_extensions (map lax_extension_of l.extensions) l.initial.self
