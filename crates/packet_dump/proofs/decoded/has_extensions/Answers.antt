use Rattle.std.proofs.Common.{◌≡◌, ◌∷◌, [], arith, false, length, nat_lt, refl, rules, sym}
use Rattle.std.proofs.lemmas.Bool.{lt-ltb}
use Rattle.etherparse.specs.LaxViews.{lax_extensions_of}
use Rattle.packet_dump.specs.PacketContents.{has_extensions}
use Rattle.packet_dump.proofs.decoded.has_extensions.Goals as goal

pub returns : goal.returns
returns c =
    let any : has_extensions (lax_extensions_of false c.args.extensions.now) ≡ nat_lt 0 (length c.args.extensions.now) =
    elim c.args.extensions.now as (λ slices. has_extensions (lax_extensions_of false slices) ≡ nat_lt 0 (length slices))
    [ [] ↦ refl | slice ∷ others ↦ sym (lt-ltb 0 (length (slice ∷ others)) (omega arith)) ] in
    search (rules, any)
