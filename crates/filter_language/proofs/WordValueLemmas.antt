-- Lemmas about words that are no values.
use Rattle.std.proofs.Common.{ℕ, ◌≤◌, List}
use Rattle.filter_tokens.specs.declared.network.Network.{Network}
use Rattle.filter_tokens.specs.declared.primitive.AddressLayer.{AddressLayer}
use Rattle.filter_tokens.specs.declared.primitive.IpVersion.{IpVersion}
use Rattle.filter_tokens.specs.declared.primitive.PortProtocol.{PortProtocol}
use Rattle.filter_tokens.specs.declared.primitive.Primitive.{Primitive}
use Rattle.filter_tokens.specs.declared.primitive.Primitive.TheVariants as primitive
use Rattle.filter_tokens.specs.declared.primitive.Side.{Side}
use Rattle.filter_tokens.specs.Values.{IsFamily, IsNetworkText, IsNumberText, IsPortText, IsRangeText}
use Rattle.filter_language.specs.declared.head.Head.TheVariants as head
use Rattle.filter_language.specs.Grammar.{IsWordValue}

-- Primitives of other kinds are no values of the head.
pub no_net : (layer : AddressLayer) (side : Side) (text : List ℕ)
    → ((network : Network) → IsNetworkText text network → IsFamily layer network.address → ⊥)
    → (p : Primitive) → IsWordValue (head.Net layer side) text p → ⊥
no_net layer side text none_is (primitive.Address layer' side' network) stated = none_is network stated.0 stated.1
no_net layer side text none_is p stated = stated

pub no_port : (ports : PortProtocol) (side : Side) (text : List ℕ) → ((port : ℕ) → IsPortText text port → ⊥)
    → (p : Primitive) → IsWordValue (head.Port ports side) text p → ⊥
no_port ports side text none_is (primitive.Port ports' side' low high) stated = none_is low stated.0
no_port ports side text none_is p stated = stated

pub no_range : (ports : PortProtocol) (side : Side) (text : List ℕ)
    → ((low high : ℕ) → IsRangeText text low high → ⊥)
    → (p : Primitive) → IsWordValue (head.PortRange ports side) text p → ⊥
no_range ports side text none_is (primitive.Port ports' side' low high) stated = none_is low high stated.0
no_range ports side text none_is p stated = stated

pub no_protocol : (ip : IpVersion) (text : List ℕ) → ((number : ℕ) → IsNumberText 255 text number → ⊥)
    → (p : Primitive) → IsWordValue (head.Protocol ip) text p → ⊥
no_protocol ip text none_is (primitive.Protocol ip' number) stated = none_is number.0 stated.0
no_protocol ip text none_is p stated = stated

pub no_ether_type : (text : List ℕ) → ((number : ℕ) → IsNumberText 65535 text number × (1536 ≤ number) → ⊥)
    → (p : Primitive) → IsWordValue head.EtherType text p → ⊥
no_ether_type text none_is (primitive.EtherType type) stated = none_is type.0 stated
no_ether_type text none_is p stated = stated
