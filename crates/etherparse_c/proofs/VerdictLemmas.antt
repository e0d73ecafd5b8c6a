-- Verdicts about a packet with a known entry.
use Rattle.std.proofs.Common.{◌≡◌, List, ℕ, Option, Some, inl, refl, subst, sym}
use Rattle.etherparse.specs.FrameVerdicts.{frame_checksums}
use Rattle.etherparse.specs.Lax.{IsLax}
use Rattle.etherparse.specs.LaxLayers.{LaxLayers}
use Rattle.etherparse.specs.StrictFrames.{layers_in}
use Rattle.etherparse.specs.Types.Entry.{Entry}
use Rattle.etherparse_c.specs.declared.fields.Fields.{Fields}
use Rattle.etherparse_c.specs.VerdictAnswers.{IsVerdictsAnswer, with_verdicts}

-- The verdicts about a lax packet are an answer with status 0.
pub verified : (first : Option Entry) (entry : Entry) (bytes : List ℕ) (old new : Fields) (read : LaxLayers)
    → first ≡ Some entry → IsLax entry bytes read
    → new ≡ with_verdicts (frame_checksums bytes (layers_in read) read.net.inside.incomplete) old
    → IsVerdictsAnswer first bytes old new 0
verified first entry bytes old new read is lax same =
    subst (λ (e : Option Entry). IsVerdictsAnswer e bytes old new 0) (sym is) (inl (refl, (read, lax, same)))
