-- Whether a word is a value of qualifiers can be decided.
use Rattle.std.proofs.Common.{ℕ, ◌≤◌, inl, inr, List, refl, lit<}
use Rattle.std.specs.Net.Grammar.{IsIpText}
use Rattle.std.specs.declared.net.ip_addr.IpAddr.{IpAddr}
use Rattle.std.proofs.NetLemmas.Theorems.{IsIpText_unique}
use Rattle.filter_tokens.specs.declared.network.Network.{Network}
use Rattle.filter_tokens.specs.declared.primitive.AddressLayer.{AddressLayer}
use Rattle.filter_tokens.specs.declared.primitive.IpVersion.{IpVersion}
use Rattle.filter_tokens.specs.declared.primitive.PortProtocol.{PortProtocol}
use Rattle.filter_tokens.specs.declared.primitive.Primitive.{Primitive}
use Rattle.filter_tokens.specs.declared.primitive.Primitive.TheVariants as primitive
use Rattle.filter_tokens.specs.declared.primitive.Side.{Side}
use Rattle.filter_tokens.specs.Networks.{address_width}
use Rattle.filter_tokens.specs.Values.{IsFamily, IsNetworkText, IsNumberText, IsPortText, IsRangeText, IsStation}
use Rattle.filter_tokens.proofs.OnceLemmas.{one_network}
use Rattle.filter_language.specs.declared.head.Head.{Head}
use Rattle.filter_language.specs.declared.head.Head.TheVariants as head
use Rattle.filter_language.specs.Grammar.{IsWordValue}
use Rattle.filter_language.specs.Primitives.{protocol_test, type_test}
use Rattle.filter_language.specs.Refusals.{IsOtherFamily}
use Rattle.packet_filter.proofs.DecideAddressLemmas.{family_decided, ip_found, network_found}
use Rattle.packet_filter.proofs.DecideNumberLemmas.{number_found, number_such, port_found, range_found, station_found}
use Rattle.packet_filter.proofs.DecidedLemmas.{Decided, Found, found_as, found_such, most_decided}

-- ---- values

host_value : (layer : AddressLayer) (side : Side) (text : List ℕ) (p : Primitive)
    → IsWordValue (head.Host layer side) text p → (address : IpAddr) × (IsIpText text address × IsFamily layer address)
host_value layer side text (primitive.Address layer' side' network) is = (network.address, (is.0, is.2))
host_value layer side text p is = absurd is

net_value : (layer : AddressLayer) (side : Side) (text : List ℕ) (p : Primitive)
    → IsWordValue (head.Net layer side) text p
    → (network : Network) × (IsNetworkText text network × IsFamily layer network.address)
net_value layer side text (primitive.Address layer' side' network) is = (network, (is.0, is.1))
net_value layer side text p is = absurd is

station_value : (side : Side) (text : List ℕ) (p : Primitive) → IsWordValue (head.Station side) text p
    → (octets : List ℕ) × IsStation text octets
station_value side text (primitive.Station side' octets) is = (octets, is.0)
station_value side text p is = absurd is

port_value : (ports : PortProtocol) (side : Side) (text : List ℕ) (p : Primitive)
    → IsWordValue (head.Port ports side) text p → (port : ℕ) × IsPortText text port
port_value ports side text (primitive.Port ports' side' low high) is = (low, is.0)
port_value ports side text p is = absurd is

range_value : (ports : PortProtocol) (side : Side) (text : List ℕ) (p : Primitive)
    → IsWordValue (head.PortRange ports side) text p → (range : ℕ × ℕ) × IsRangeText text range.0 range.1
range_value ports side text (primitive.Port ports' side' low high) is = ((low, high), is.0)
range_value ports side text p is = absurd is

protocol_value : (ip : IpVersion) (text : List ℕ) (p : Primitive) → IsWordValue (head.Protocol ip) text p
    → (number : ℕ) × IsNumberText 255 text number
protocol_value ip text (primitive.Protocol ip' number) is = (number.0, is.0)
protocol_value ip text p is = absurd is

type_value : (text : List ℕ) (p : Primitive) → IsWordValue head.EtherType text p
    → (number : ℕ) × (IsNumberText 65535 text number × (1536 ≤ number))
type_value text (primitive.EtherType type) is = (type.0, (is.0, is.1))
type_value text p is = absurd is

-- The value of a word.
pub value_found : (q : Head) (text : List ℕ) → Found (λ p. IsWordValue q text p)
value_found (head.Host layer side) text =
    found_as (λ address. IsIpText text address × IsFamily layer address) (IsWordValue (head.Host layer side) text)
    (λ address is. (
      primitive.Address layer side (record { address = address; bits = address_width address }),
      (is.0, refl, is.1, refl, refl),
    ))
    (host_value layer side text)
    (found_such (IsIpText text) (IsFamily layer) (IsIpText_unique text) (family_decided layer) (ip_found text))
value_found (head.Net layer side) text =
    found_as (λ network. IsNetworkText text network × IsFamily layer network.address)
    (IsWordValue (head.Net layer side) text)
    (λ network is. (primitive.Address layer side network, (is.0, is.1, refl, refl)))
    (net_value layer side text)
    (found_such (IsNetworkText text) (λ network. IsFamily layer network.address) (one_network text)
    (λ network. family_decided layer network.address) (network_found text))
value_found (head.Station side) text =
    found_as (IsStation text) (IsWordValue (head.Station side) text)
    (λ octets is. (primitive.Station side octets, (is, refl))) (station_value side text) (station_found text)
value_found (head.Port ports side) text =
    found_as (IsPortText text) (IsWordValue (head.Port ports side) text)
    (λ port is. (primitive.Port ports side port port, (is, refl, refl, refl))) (port_value ports side text)
    (port_found text)
value_found (head.PortRange ports side) text =
    found_as (λ range. IsRangeText text range.0 range.1) (IsWordValue (head.PortRange ports side) text)
    (λ range is. (primitive.Port ports side range.0 range.1, (is, refl, refl))) (range_value ports side text)
    (range_found text)
value_found (head.Protocol ip) text =
    found_as (IsNumberText 255 text) (IsWordValue (head.Protocol ip) text)
    (λ number is. (protocol_test ip number, (is, refl))) (protocol_value ip text) (number_found 255 text (lit< tt))
value_found head.EtherType text =
    found_as (λ number. IsNumberText 65535 text number × (1536 ≤ number)) (IsWordValue head.EtherType text)
    (λ number is. (type_test number, (is.0, is.1))) (type_value text)
    (number_such 65535 text (λ number. 1536 ≤ number) (lit< tt) (λ number. most_decided 1536 number))

-- ---- addresses of the other IP version

is_present : {V : Type 0} (P : V → Type 0) → Found P → Decided ((v : V) × P v)
is_present P (inl present) = inl present
is_present P (inr none) = inr (λ present. none present.0 present.1)

pub other_family_decided : (q : Head) (text : List ℕ) → Decided (IsOtherFamily q text)
other_family_decided (head.Host layer side) text = is_present (IsIpText text) (ip_found text)
other_family_decided (head.Net layer side) text = is_present (IsNetworkText text) (network_found text)
other_family_decided q text = inr (λ is. is)
