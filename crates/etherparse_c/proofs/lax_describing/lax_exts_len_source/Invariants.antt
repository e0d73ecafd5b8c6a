use Rattle.std.proofs.Common.{◌≡◌, map, drop}
use Rattle.etherparse.specs.LaxViews.{lax_extension_of}
use Rattle.etherparse.specs.Types.LenSource.TheVariants as source
use Rattle.etherparse_c.specs.LaxAnswers.{tags_end}
use Rattle.etherparse_c.proofs.lax_describing.lax_exts_len_source.Given as goal

-- Loop invariant: the limit so far, and the tags to come, give the limit of all tags.
abbrev pub invariant-loop-extension : goal.invariant-loop-extension
invariant-loop-extension l =
    tags_end l.end (map lax_extension_of (drop l.extension-index l.extensions))
    ≡ tags_end source.Slice (map lax_extension_of l.extensions)
