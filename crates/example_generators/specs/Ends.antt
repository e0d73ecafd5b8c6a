-- The link header of all frames of this crate except the answers.
use Rattle.std.specs.Prelude.{[], ◌∷◌}
use Rattle.etherparse.specs.Steps.{no_type}
use Rattle.etherparse.specs.Types.LinkPart.{LinkPart}
use Rattle.etherparse.specs.Types.LinkPart.TheVariants as link

-- the Ethernet II header
abbrev pub ethernet_header : LinkPart
ethernet_header = link.Ethernet2 (record {
  source = 2 ∷ 0 ∷ 0 ∷ 0 ∷ 0 ∷ 1 ∷ [];
  destination = 2 ∷ 0 ∷ 0 ∷ 0 ∷ 0 ∷ 2 ∷ [];
  ether_type = no_type;
})
