-- Lemmas about words after qualifiers: each has one value.
use Rattle.std.proofs.Common.{◌≡◌, ℕ, inl, List, refl, ap, sym, ◌∙◌, lit<}
use Rattle.filter_tokens.specs.declared.network.Network.{Network}
use Rattle.filter_tokens.specs.declared.primitive.AddressLayer.{AddressLayer}
use Rattle.filter_tokens.specs.declared.primitive.IpVersion.{IpVersion}
use Rattle.filter_tokens.specs.declared.primitive.PortProtocol.{PortProtocol}
use Rattle.filter_tokens.specs.declared.primitive.Primitive.{Primitive}
use Rattle.filter_tokens.specs.declared.primitive.Primitive.TheVariants as primitive
use Rattle.filter_tokens.specs.declared.primitive.Side.{Side}
use Rattle.filter_tokens.specs.Values.{IsNetworkText, IsNumberText, IsPortText, IsRangeText, IsStation}
use Rattle.filter_tokens.proofs.OnceLemmas.{one_network, one_number, one_port_text, one_range, one_station}
use Rattle.filter_language.specs.declared.head.Head.{Head}
use Rattle.filter_language.specs.declared.head.Head.TheVariants as head
use Rattle.filter_language.specs.Grammar.{IsWordValue}
use Rattle.filter_language.specs.Primitives.{protocol_test, type_test}

host_value : (layer : AddressLayer) (side : Side) (text : List ℕ) (p : Primitive)
    → IsWordValue (head.Host layer side) text p
    → (network : Network) × (p ≡ primitive.Address layer side network) × IsNetworkText text network
host_value layer side text (primitive.Address layer' side' network) is =
    (network, λ i. primitive.Address (is.3 i) (is.4 i) network, inl (is.0, is.1))
host_value layer side text p is = absurd is

net_value : (layer : AddressLayer) (side : Side) (text : List ℕ) (p : Primitive)
    → IsWordValue (head.Net layer side) text p
    → (network : Network) × (p ≡ primitive.Address layer side network) × IsNetworkText text network
net_value layer side text (primitive.Address layer' side' network) is =
    (network, λ i. primitive.Address (is.2 i) (is.3 i) network, is.0)
net_value layer side text p is = absurd is

station_value : (side : Side) (text : List ℕ) (p : Primitive) → IsWordValue (head.Station side) text p
    → (octets : List ℕ) × (p ≡ primitive.Station side octets) × IsStation text octets
station_value side text (primitive.Station side' octets) is = (octets, λ i. primitive.Station (is.1 i) octets, is.0)
station_value side text p is = absurd is

port_value : (ports : PortProtocol) (side : Side) (text : List ℕ) (p : Primitive)
    → IsWordValue (head.Port ports side) text p
    → (port : ℕ) × (p ≡ primitive.Port ports side port port) × IsPortText text port
port_value ports side text (primitive.Port ports' side' low high) is =
    (low, λ i. primitive.Port (is.2 i) (is.3 i) low (is.1 i), is.0)
port_value ports side text p is = absurd is

range_value : (ports : PortProtocol) (side : Side) (text : List ℕ) (p : Primitive)
    → IsWordValue (head.PortRange ports side) text p
    → (low high : ℕ) × (p ≡ primitive.Port ports side low high) × IsRangeText text low high
range_value ports side text (primitive.Port ports' side' low high) is =
    (low, high, λ i. primitive.Port (is.1 i) (is.2 i) low high, is.0)
range_value ports side text p is = absurd is

protocol_value : (ip : IpVersion) (text : List ℕ) (p : Primitive) → IsWordValue (head.Protocol ip) text p
    → (number : ℕ) × (p ≡ protocol_test ip number) × IsNumberText 255 text number
protocol_value ip text (primitive.Protocol ip' number) is = (number.0, λ i. primitive.Protocol (is.1 i) number, is.0)
protocol_value ip text p is = absurd is

type_value : (text : List ℕ) (p : Primitive) → IsWordValue head.EtherType text p
    → (number : ℕ) × (p ≡ type_test number) × IsNumberText 65535 text number
type_value text (primitive.EtherType type) is = (type.0, refl, is.0)
type_value text p is = absurd is

-- A word has one value for its qualifiers.
pub one_value : (q : Head) (text : List ℕ) (p p' : Primitive) → IsWordValue q text p → IsWordValue q text p'
    → p ≡ p'
one_value (head.Host layer side) text p p' is is' =
    let (network, shape, stated) = host_value layer side text p is in
    let (network', shape', stated') = host_value layer side text p' is' in
    shape ∙ ap (primitive.Address layer side) (one_network text network network' stated stated') ∙ sym shape'
one_value (head.Net layer side) text p p' is is' =
    let (network, shape, stated) = net_value layer side text p is in
    let (network', shape', stated') = net_value layer side text p' is' in
    shape ∙ ap (primitive.Address layer side) (one_network text network network' stated stated') ∙ sym shape'
one_value (head.Station side) text p p' is is' =
    let (octets, shape, stated) = station_value side text p is in
    let (octets', shape', stated') = station_value side text p' is' in
    shape ∙ ap (primitive.Station side) (one_station text octets octets' stated stated') ∙ sym shape'
one_value (head.Port ports side) text p p' is is' =
    let (port, shape, stated) = port_value ports side text p is in
    let (port', shape', stated') = port_value ports side text p' is' in
    shape ∙ ap (λ (n : ℕ). primitive.Port ports side n n) (one_port_text text port port' stated stated') ∙ sym shape'
one_value (head.PortRange ports side) text p p' is is' =
    let (low, high, shape, stated) = range_value ports side text p is in
    let (low', high', shape', stated') = range_value ports side text p' is' in
    let present = one_range text low high low' high' stated stated' in
    shape ∙ (λ i. primitive.Port ports side (present.0 i) (present.1 i)) ∙ sym shape'
one_value (head.Protocol ip) text p p' is is' =
    let (number, shape, stated) = protocol_value ip text p is in
    let (number', shape', stated') = protocol_value ip text p' is' in
    shape ∙ ap (protocol_test ip) (one_number 255 255 text number number' (lit< tt) (lit< tt) stated stated') ∙ sym shape'
one_value head.EtherType text p p' is is' =
    let (number, shape, stated) = type_value text p is in
    let (number', shape', stated') = type_value text p' is' in
    shape ∙ ap type_test (one_number 65535 65535 text number number' (lit< tt) (lit< tt) stated stated') ∙ sym shape'
