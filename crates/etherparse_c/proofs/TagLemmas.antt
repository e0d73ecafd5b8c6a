-- Tags of at most three link extensions.
use Rattle.std.proofs.Common.{◌≡◌, ℕ, ◌+◌, ◌≤◌, List, [], ◌∷◌, length, map, refl, sym, ap, ◌∙◌, arith}
use Rattle.etherparse.specs.LinkExtensions.{LinkExtension}
use Rattle.etherparse_c.specs.declared.packet.LinkExt.{LinkExt}
use Rattle.etherparse_c.specs.Description.{no_tag, tag_len, tag_part, tag_slots, tags_len}

-- A list of length 0 is empty.
no_more : {Slice : Type 0} (others : List Slice) → length others ≡ 0 → others ≡ []
no_more [] none = refl
no_more (extension ∷ others) none = absurd (omega (arith, none))

-- After three of at most three elements the list is empty.
is_last : {Slice : Type 0} (others : List Slice) → 3 + length others ≤ 3 → others ≡ []
is_last [] most = refl
is_last (extension ∷ others) most = absurd (omega (arith, most))

-- The second tag starts where the first one ends.
second_tag : {Slice : Type 0} (of : Slice → LinkExtension) (offset : ℕ) (a b : Slice) (x y : LinkExt)
    → x ≡ tag_part offset (of a) → y ≡ tag_part (offset + x.len) (of b)
    → y ≡ tag_part (offset + tag_len (of a)) (of b)
second_tag of offset a b x y first second =
    second ∙ ap (λ (t : LinkExt). tag_part (offset + t.len) (of b)) first

pub two_slots : {Slice : Type 0} (of : Slice → LinkExtension) (offset : ℕ) {all : List Slice} {a b : Slice}
    {x y z : LinkExt} → all ≡ a ∷ b ∷ [] → x ≡ tag_part offset (of a) → y ≡ tag_part (offset + x.len) (of b)
    → z ≡ no_tag → x ∷ y ∷ z ∷ [] ≡ tag_slots offset (map of all)
two_slots {Slice = Slice} of offset {a = a} {b = b} {x = x} {y = y} {z = z} same first second none =
    let middle = second_tag of offset a b x y first second in
    let here : x ∷ y ∷ z ∷ [] ≡ tag_slots offset (map of (a ∷ b ∷ [])) =
    λ i. first i ∷ middle i ∷ none i ∷ [] in
    here ∙ sym (ap (λ (l : List Slice). tag_slots offset (map of l)) same)

pub three_slots : {Slice : Type 0} (of : Slice → LinkExtension) (offset : ℕ) {all : List Slice} {a b c : Slice}
    {x y z : LinkExt} → all ≡ a ∷ b ∷ c ∷ [] → x ≡ tag_part offset (of a) → y ≡ tag_part (offset + x.len) (of b)
    → z ≡ tag_part (offset + x.len + y.len) (of c) → x ∷ y ∷ z ∷ [] ≡ tag_slots offset (map of all)
three_slots {Slice = Slice} of offset {a = a} {b = b} {c = c} {x = x} {y = y} {z = z} same first second third =
    let middle = second_tag of offset a b x y first second in
    let inner : z ≡ tag_part
    (offset + tag_len (of a) + tag_len (of b)) (of c) =
    third
    ∙ ap (λ (t : LinkExt). tag_part (offset + t.len + y.len) (of c)) first
    ∙ ap (λ (t : LinkExt). tag_part (offset + tag_len (of a) + t.len) (of c)) middle in
    let here : x ∷ y ∷ z ∷ [] ≡ tag_slots offset (map of (a ∷ b ∷ c ∷ [])) =
    λ i. first i ∷ middle i ∷ inner i ∷ [] in
    here ∙ sym (ap (λ (l : List Slice). tag_slots offset (map of l)) same)

-- A list with two elements and an empty rest is these two.
pub two_tags : {Slice : Type 0} {all others rest : List Slice} {a b : Slice} → all ≡ a ∷ others → others ≡ b ∷ rest
    → length rest ≡ 0 → all ≡ a ∷ b ∷ []
two_tags {a = a} {b = b} first second none =
    first ∙ ap (λ l. a ∷ l) (second ∙ ap (λ l. b ∷ l) (no_more _ none))

-- A list of at most three elements that has three is these three.
pub three_tags : {Slice : Type 0} {all others rest last : List Slice} {a b c : Slice} → all ≡ a ∷ others
    → others ≡ b ∷ rest → rest ≡ c ∷ last → length all ≤ 3 → all ≡ a ∷ b ∷ c ∷ []
three_tags {last = last} {a = a} {b = b} {c = c} first second third most =
    let few : 3 + length last ≤ 3 = omega (arith, ap length first, ap length second, ap length third, most) in
    first ∙ ap (λ l. a ∷ l) (second ∙ ap (λ l. b ∷ l) (third ∙ ap (λ l. c ∷ l) (is_last _ few)))

-- The end of two tags.
pub two_end : {Slice : Type 0} (of : Slice → LinkExtension) (offset : ℕ) {all : List Slice} {a b : Slice}
    {x y : LinkExt} → all ≡ a ∷ b ∷ [] → x ≡ tag_part offset (of a) → y ≡ tag_part (offset + x.len) (of b)
    → offset + x.len + y.len ≡ offset + tags_len (map of all)
two_end {Slice = Slice} of offset same first second = omega (
  arith,
  ap (λ (l : List Slice). tags_len (map of l)) same,
  ap (λ (t : LinkExt). t.len) first,
  ap (λ (t : LinkExt). t.len) second,
)

-- The end of three tags.
pub three_end : {Slice : Type 0} (of : Slice → LinkExtension) (offset : ℕ) {all : List Slice} {a b c : Slice}
    {x y z : LinkExt} → all ≡ a ∷ b ∷ c ∷ [] → x ≡ tag_part offset (of a) → y ≡ tag_part (offset + x.len) (of b)
    → z ≡ tag_part (offset + x.len + y.len) (of c)
    → offset + x.len + y.len + z.len ≡ offset + tags_len (map of all)
three_end {Slice = Slice} of offset same first second third = omega (
  arith,
  ap (λ (l : List Slice). tags_len (map of l)) same,
  ap (λ (t : LinkExt). t.len) first,
  ap (λ (t : LinkExt). t.len) second,
  ap (λ (t : LinkExt). t.len) third,
)
