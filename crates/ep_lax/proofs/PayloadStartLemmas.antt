-- Lemmas about packets that have the start of their payload.
use Rattle.std.proofs.Common.{◌≡◌, ℕ, zero, suc, Bool, true, false, ◌==◌, ◌&&◌, ◌||◌, nat_lt, List, [], ◌∷◌, refl, ap, ◌∙◌, arith}
use Rattle.ep_ext.specs.Chains.{chain_fragments}
use Rattle.ep_ext.specs.ExtensionParts.{ExtensionPart, hop_by_hop, destination_options, routing, fragment, authentication}
use Rattle.ep_packet.specs.PayloadStarts.{are_first}

neither : (a b : Bool) → (a || b) ≡ false → (a ≡ false) × (b ≡ false)
neither true b is = let never : ⊥ = cc in absurd never
neither false b is = (refl, is)

none : (n : ℕ) → nat_lt 0 n ≡ false → (n == 0) ≡ true
none zero is = refl
none (suc n) is = let never : ⊥ = grind (arith, is) in absurd never

-- A packet that is no fragment has the start of its payload.
pub complete_begins : (parts : List ExtensionPart) → chain_fragments parts ≡ false → are_first parts ≡ true
complete_begins [] complete = refl
complete_begins (hop_by_hop header ∷ parts) complete = complete_begins parts complete
complete_begins (destination_options header ∷ parts) complete = complete_begins parts complete
complete_begins (routing header ∷ parts) complete = complete_begins parts complete
complete_begins (authentication header ∷ parts) complete = complete_begins parts complete
complete_begins (fragment header ∷ parts) complete =
    let (here, others) = neither _ _ complete in
    let (more, offset) = neither _ _ here in
    ap (λ (first : Bool). first && are_first parts) (none header.fragment_offset offset) ∙ complete_begins parts others
