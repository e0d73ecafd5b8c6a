-- The fields of the three tag slots of a description.
use Rattle.std.proofs.Common.{◌≡◌, ℕ, List, [], ◌∷◌, length, get_or, refl, arith}
use Rattle.etherparse_c.specs.declared.fields.TagFields.{TagFields}
use Rattle.etherparse_c.specs.declared.packet.LinkExt.{LinkExt}
use Rattle.etherparse_c.specs.Description.{no_tag}
use Rattle.etherparse_c.specs.FieldAnswers.{AreTagsAt, IsTagAt}

-- The fields of three slots are those of each slot.
pub of_slots : (tags : List LinkExt) (bytes : List ℕ) (outer middle inner : TagFields) → length tags ≡ 3
    → IsTagAt (get_or tags 0 no_tag) bytes outer → IsTagAt (get_or tags 1 no_tag) bytes middle
    → IsTagAt (get_or tags 2 no_tag) bytes inner → AreTagsAt tags bytes (outer ∷ middle ∷ inner ∷ [])
of_slots [] bytes outer middle inner three a b c = absurd (omega (arith, three))
of_slots (x ∷ []) bytes outer middle inner three a b c = absurd (omega (arith, three))
of_slots (x ∷ y ∷ []) bytes outer middle inner three a b c = absurd (omega (arith, three))
of_slots (x ∷ y ∷ z ∷ []) bytes outer middle inner three a b c = (a, (b, (c, tt)))
of_slots (x ∷ y ∷ z ∷ t ∷ tags) bytes outer middle inner three a b c = absurd (omega (arith, three))

-- Three slots with their fields.
pub record Slots (tags : List LinkExt) (bytes : List ℕ) (fields : List TagFields) : Type 0 where
  pub outer : TagFields
  pub middle : TagFields
  pub inner : TagFields
  pub same : fields ≡ outer ∷ middle ∷ inner ∷ []
  pub first : IsTagAt (get_or tags 0 no_tag) bytes outer
  pub second : IsTagAt (get_or tags 1 no_tag) bytes middle
  pub third : IsTagAt (get_or tags 2 no_tag) bytes inner

pub in_slots : (tags : List LinkExt) (bytes : List ℕ) (fields : List TagFields) → length tags ≡ 3
    → AreTagsAt tags bytes fields → Slots tags bytes fields
in_slots [] bytes fields three are = absurd (omega (arith, three))
in_slots (x ∷ []) bytes fields three are = absurd (omega (arith, three))
in_slots (x ∷ y ∷ []) bytes fields three are = absurd (omega (arith, three))
in_slots (x ∷ y ∷ z ∷ []) bytes [] three are = absurd are
in_slots (x ∷ y ∷ z ∷ []) bytes (a ∷ []) three are = absurd are.1
in_slots (x ∷ y ∷ z ∷ []) bytes (a ∷ b ∷ []) three are = absurd are.1.1
in_slots (x ∷ y ∷ z ∷ []) bytes (a ∷ b ∷ c ∷ []) three are = record {
  outer = a;
  middle = b;
  inner = c;
  same = refl;
  first = are.0;
  second = are.1.0;
  third = are.1.1.0;
}
in_slots (x ∷ y ∷ z ∷ []) bytes (a ∷ b ∷ c ∷ d ∷ fields) three are = absurd are.1.1.1
in_slots (x ∷ y ∷ z ∷ t ∷ tags) bytes fields three are = absurd (omega (arith, three))
