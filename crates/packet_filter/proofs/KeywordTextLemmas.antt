-- Lemmas about keywords, symbols and qualifiers as they are printed: they are read as their tokens.
use Rattle.std.proofs.Common.{◌≡◌, ℕ, true, List, [], ◌∷◌, ◌++◌, codes, refl, ap, sym, subst, ◌∙◌, append_assoc}
use Rattle.filter_tokens.specs.declared.primitive.AddressLayer.{AddressLayer}
use Rattle.filter_tokens.specs.declared.primitive.AddressLayer.TheVariants as of
use Rattle.filter_tokens.specs.declared.primitive.IpVersion.{IpVersion}
use Rattle.filter_tokens.specs.declared.primitive.IpVersion.TheVariants as version
use Rattle.filter_tokens.specs.declared.primitive.PortProtocol.{PortProtocol}
use Rattle.filter_tokens.specs.declared.primitive.PortProtocol.TheVariants as protocol
use Rattle.filter_tokens.specs.declared.primitive.Side.{Side}
use Rattle.filter_tokens.specs.declared.primitive.Side.TheVariants.{Source, Destination, Either, Both}
use Rattle.filter_tokens.specs.declared.keyword.Keyword.TheVariants as name
use Rattle.filter_tokens.specs.Tokens
use Rattle.filter_tokens.specs.Tokens.{Token, is_alphanumeric, word_of, word_token, keyword, and, or, left_parenthesis, right_parenthesis, left_bracket, right_bracket, slash}
use Rattle.filter_language.specs.Grammar.{src, dst}
use Rattle.filter_tokens.specs.PrimitiveTexts.{layer_text, ports_text, side_text, version_text}
use Rattle.packet_filter.proofs.LexingLemmas
use Rattle.packet_filter.proofs.LexingLemmas.{IsLexed}
use Rattle.packet_filter.proofs.PrintedTokens.{layer_tokens, ports_tokens, side_tokens, version_tokens}
use Rattle.packet_filter.proofs.WordTextLemmas.{lexed_start, stops}

-- A text that ends, or goes on with a blank or `)`: what comes after a primitive.
pub data IsApart : List ℕ → Type 0 where
  at_end : IsApart []
  at_blank : (text : List ℕ) → IsApart (32 ∷ text)
  at_parenthesis : (text : List ℕ) → IsApart (41 ∷ text)

-- The text is that of the tokens, whatever comes after it.
abbrev pub IsTextOf : List ℕ → List Token → Type 0
IsTextOf text tokens =
    (rest : List ℕ) (more : List Token) → IsApart rest → IsLexed rest more → IsLexed (text ++ rest) (tokens ++ more)

-- The text of the tokens, which ends with a blank.
abbrev pub IsPrefixOf : List ℕ → List Token → Type 0
IsPrefixOf text tokens =
    (rest : List ℕ) (more : List Token) → IsLexed rest more → IsLexed (text ++ rest) (tokens ++ more)

pub same_text : (text other : List ℕ) (tokens : List Token) → other ≡ text → IsLexed text tokens → IsLexed other tokens
same_text text other tokens same lexed = subst (λ (list : List ℕ). IsLexed list tokens) (sym same) lexed

pub same_tokens : (text : List ℕ) (tokens other : List Token) → other ≡ tokens → IsLexed text tokens
    → IsLexed text other
same_tokens text tokens other same lexed = subst (λ (list : List Token). IsLexed text list) (sym same) lexed

pub apart_stops : (rest : List ℕ) → IsApart rest → stops rest ≡ true
apart_stops rest at_end = refl
apart_stops rest (at_blank text) = refl
apart_stops rest (at_parenthesis text) = refl

-- ---- blanks and symbols

pub blank_then : (rest : List ℕ) (more : List Token) → IsLexed rest more → IsLexed (32 ∷ rest) more
blank_then rest more lexed = LexingLemmas.blank 32 rest more refl lexed

pub open_then : (rest : List ℕ) (more : List Token) → IsLexed rest more
    → IsLexed (40 ∷ rest) (left_parenthesis ∷ more)
open_then rest more lexed = LexingLemmas.piece 40 [] rest left_parenthesis more refl refl lexed

pub close_then : (rest : List ℕ) (more : List Token) → IsLexed rest more
    → IsLexed (41 ∷ rest) (right_parenthesis ∷ more)
close_then rest more lexed = LexingLemmas.piece 41 [] rest right_parenthesis more refl refl lexed

pub left_bracket_then : (rest : List ℕ) (more : List Token) → IsLexed rest more
    → IsLexed (91 ∷ rest) (left_bracket ∷ more)
left_bracket_then rest more lexed = LexingLemmas.piece 91 [] rest left_bracket more refl refl lexed

pub right_bracket_then : (rest : List ℕ) (more : List Token) → IsLexed rest more
    → IsLexed (93 ∷ rest) (right_bracket ∷ more)
right_bracket_then rest more lexed = LexingLemmas.piece 93 [] rest right_bracket more refl refl lexed

pub slash_then : (rest : List ℕ) (more : List Token) → IsLexed rest more → IsLexed (47 ∷ rest) (slash ∷ more)
slash_then rest more lexed = LexingLemmas.piece 47 [] rest slash more refl refl lexed

-- ---- keywords

-- A keyword and a blank.
keyword_then : (first : ℕ) (others rest : List ℕ) (token : Token) (more : List Token) → is_alphanumeric first ≡ true
    → word_of (first ∷ (others ++ 32 ∷ rest)) ≡ first ∷ others → word_token (first ∷ others) ≡ token
    → IsLexed rest more → IsLexed (first ∷ (others ++ 32 ∷ rest)) (token ∷ more)
keyword_then first others rest token more alphanumeric complete named lexed =
    lexed_start first others (32 ∷ rest) token more alphanumeric complete named (blank_then rest more lexed)

ip_then : IsPrefixOf (codes "ip ") (keyword name.Ip ∷ [])
ip_then rest more lexed = keyword_then 105 (112 ∷ []) rest (keyword name.Ip) more refl refl refl lexed

ip6_then : IsPrefixOf (codes "ip6 ") (keyword name.Ip6 ∷ [])
ip6_then rest more lexed = keyword_then 105 (112 ∷ 54 ∷ []) rest (keyword name.Ip6) more refl refl refl lexed

arp_then : IsPrefixOf (codes "arp ") (keyword name.Arp ∷ [])
arp_then rest more lexed = keyword_then 97 (114 ∷ 112 ∷ []) rest (keyword name.Arp) more refl refl refl lexed

tcp_then : IsPrefixOf (codes "tcp ") (keyword name.Tcp ∷ [])
tcp_then rest more lexed = keyword_then 116 (99 ∷ 112 ∷ []) rest (keyword name.Tcp) more refl refl refl lexed

udp_then : IsPrefixOf (codes "udp ") (keyword name.Udp ∷ [])
udp_then rest more lexed = keyword_then 117 (100 ∷ 112 ∷ []) rest (keyword name.Udp) more refl refl refl lexed

sctp_then : IsPrefixOf (codes "sctp ") (keyword name.Sctp ∷ [])
sctp_then rest more lexed = keyword_then 115 (99 ∷ 116 ∷ 112 ∷ []) rest (keyword name.Sctp) more refl refl refl lexed

pub ether_then : IsPrefixOf (codes "ether ") (keyword name.Ether ∷ [])
ether_then rest more lexed =
    keyword_then 101 (116 ∷ 104 ∷ 101 ∷ 114 ∷ []) rest (keyword name.Ether) more refl refl refl lexed

pub proto_then : IsPrefixOf (codes "proto ") (keyword name.Proto ∷ [])
proto_then rest more lexed =
    keyword_then 112 (114 ∷ 111 ∷ 116 ∷ 111 ∷ []) rest (keyword name.Proto) more refl refl refl lexed

src_then : IsPrefixOf (codes "src ") (src ∷ [])
src_then rest more lexed = keyword_then 115 (114 ∷ 99 ∷ []) rest src more refl refl refl lexed

dst_then : IsPrefixOf (codes "dst ") (dst ∷ [])
dst_then rest more lexed = keyword_then 100 (115 ∷ 116 ∷ []) rest dst more refl refl refl lexed

pub or_then : IsPrefixOf (codes "or ") (or ∷ [])
or_then rest more lexed = keyword_then 111 (114 ∷ []) rest or more refl refl refl lexed

pub and_then : IsPrefixOf (codes "and ") (and ∷ [])
and_then rest more lexed = keyword_then 97 (110 ∷ 100 ∷ []) rest and more refl refl refl lexed

pub not_then : IsPrefixOf (codes "not ") (Tokens.not ∷ [])
not_then rest more lexed = keyword_then 110 (111 ∷ 116 ∷ []) rest Tokens.not more refl refl refl lexed

pub host_then : IsPrefixOf (codes "host ") (keyword name.Host ∷ [])
host_then rest more lexed = keyword_then 104 (111 ∷ 115 ∷ 116 ∷ []) rest (keyword name.Host) more refl refl refl lexed

pub net_then : IsPrefixOf (codes "net ") (keyword name.Net ∷ [])
net_then rest more lexed = keyword_then 110 (101 ∷ 116 ∷ []) rest (keyword name.Net) more refl refl refl lexed

pub port_then : IsPrefixOf (codes "port ") (keyword name.Port ∷ [])
port_then rest more lexed = keyword_then 112 (111 ∷ 114 ∷ 116 ∷ []) rest (keyword name.Port) more refl refl refl lexed

pub portrange_then : IsPrefixOf (codes "portrange ") (keyword name.PortRange ∷ [])
portrange_then rest more lexed =
    keyword_then 112 (111 ∷ 114 ∷ 116 ∷ 114 ∷ 97 ∷ 110 ∷ 103 ∷ 101 ∷ []) rest (keyword name.PortRange) more refl refl
    refl lexed

pub vlan_then : IsPrefixOf (codes "vlan ") (keyword name.Vlan ∷ [])
vlan_then rest more lexed = keyword_then 118 (108 ∷ 97 ∷ 110 ∷ []) rest (keyword name.Vlan) more refl refl refl lexed

-- ---- qualifiers

pub lexed_version : (ip : IpVersion) → IsPrefixOf (version_text ip) (version_tokens ip)
lexed_version version.Any rest more lexed = lexed
lexed_version version.V4 rest more lexed = ip_then rest more lexed
lexed_version version.V6 rest more lexed = ip6_then rest more lexed

pub lexed_layer : (layer : AddressLayer) → IsPrefixOf (layer_text layer) (layer_tokens layer)
lexed_layer of.Any rest more lexed = lexed
lexed_layer of.Ipv4 rest more lexed = ip_then rest more lexed
lexed_layer of.Ipv6 rest more lexed = ip6_then rest more lexed
lexed_layer of.Arp rest more lexed = arp_then rest more lexed

pub lexed_side : (side : Side) → IsPrefixOf (side_text side) (side_tokens side)
lexed_side Source rest more lexed = src_then rest more lexed
lexed_side Destination rest more lexed = dst_then rest more lexed
lexed_side Either rest more lexed =
    src_then (codes "or dst " ++ rest) (or ∷ dst ∷ more)
    (or_then (codes "dst " ++ rest) (dst ∷ more) (dst_then rest more lexed))
lexed_side Both rest more lexed =
    src_then (codes "and dst " ++ rest) (and ∷ dst ∷ more)
    (and_then (codes "dst " ++ rest) (dst ∷ more) (dst_then rest more lexed))

pub lexed_ports : (ports : PortProtocol) → IsPrefixOf (ports_text ports) (ports_tokens ports)
lexed_ports protocol.Any rest more lexed = lexed
lexed_ports protocol.Tcp rest more lexed = tcp_then rest more lexed
lexed_ports protocol.Udp rest more lexed = udp_then rest more lexed
lexed_ports protocol.Sctp rest more lexed = sctp_then rest more lexed

-- Texts and tokens that are joined in another order.
pub three_texts : (a b c rest : List ℕ) → ((a ++ b) ++ c) ++ rest ≡ a ++ (b ++ (c ++ rest))
three_texts a b c rest = append_assoc (a ++ b) c rest ∙ append_assoc a b (c ++ rest)

pub three_lists : (a b c more : List Token) → (a ++ (b ++ c)) ++ more ≡ a ++ (b ++ (c ++ more))
three_lists a b c more =
    append_assoc a (b ++ c) more ∙ ap (λ (list : List Token). a ++ list) (append_assoc b c more)
