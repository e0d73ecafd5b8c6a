use Rattle.std.proofs.Common.{◌≡◌, ◌++◌, map, drop}
use Rattle.etherparse.specs.LaxViews.{lax_extension_of}
use Rattle.packet_text.specs.Links.{extensions_text}
use Rattle.packet_text.proofs.links.push_extensions.Given as goal

-- The text so far, with that of the remaining extensions, is the complete text.
abbrev pub invariant-loop-extension : goal.invariant-loop-extension
invariant-loop-extension l =
    l.output.items ++ extensions_text (map lax_extension_of (drop l.extension-index l.extensions))
    ≡ l.initial.output.items ++ extensions_text (map lax_extension_of l.extensions)
