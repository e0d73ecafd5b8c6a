-- A frame that is built from known headers is the answer.
use Rattle.std.proofs.Common.{◌≡◌, ℕ, List, Option, Some, sym, subst}
use Rattle.etherparse.specs.BuiltFrames.{FrameHeaders}
use Rattle.etherparse.specs.Types.IpHeaders.{IpHeaders}
use Rattle.etherparse.specs.Types.LinkPart.{LinkPart}
use Rattle.etherparse_c.specs.Building.{IsBuilt}
use Rattle.etherparse_c.specs.TaggedBuilding.{IsBuiltIfValid, content_if_valid}

pub built_is_answer : (parts : Option LinkPart) (all : Option IpHeaders) (content_of : LinkPart → IpHeaders → FrameHeaders)
    (part : LinkPart) (headers : IpHeaders) (payload old new : List ℕ) (written status : ℕ) → parts ≡ Some part
    → all ≡ Some headers → IsBuilt (content_of part headers) payload old new written status
    → IsBuiltIfValid (content_if_valid parts all content_of) payload old new written status
built_is_answer parts all content_of part headers payload old new written status links leads built =
    subst (λ (p : Option LinkPart). IsBuiltIfValid (content_if_valid p all content_of) payload old new written status)
    (sym links)
    (subst (λ (a : Option IpHeaders). IsBuiltIfValid (content_if_valid (Some part) a content_of) payload old new
    written status) (sym leads) built)
