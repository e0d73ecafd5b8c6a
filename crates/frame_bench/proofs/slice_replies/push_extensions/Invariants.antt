use Rattle.std.proofs.Common.{◌≡◌, ◌++◌, map, drop}
use Rattle.etherparse.specs.LinkExtensions.{link_extension_of}
use Rattle.frame_bench.specs.SliceReplies.{further_extensions}
use Rattle.frame_bench.proofs.slice_replies.push_extensions.Given as goal

-- The output so far and the texts of the remaining extensions are the output after all of them.
abbrev pub invariant-loop-extension : goal.invariant-loop-extension
invariant-loop-extension l =
    l.output.items ++ further_extensions (map link_extension_of (drop l.extension-index l.others))
    ≡ l.initial.output.items ++ further_extensions (map link_extension_of l.others)
