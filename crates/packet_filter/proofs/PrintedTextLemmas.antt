-- Lemmas about the text of a filter as it is printed: it consists of the printed tokens.
use Rattle.std.proofs.Common.{◌≡◌, ℕ, ◌+◌, ◌/◌, ◌%◌, ◌<◌, ◌≤◌, ◌^◌, ◌==◌, ◌⊎◌, inl, inr, Bool, true, false, List, [], ◌∷◌, ◌++◌, length, Some, None, codes, decimal, refl, ap, sym, subst, ◌∙◌, arith, append_assoc, eq-eqb, ne_eqb}
use Rattle.std.proofs.lemmas.Bool.{cases_eq}
use Rattle.std.proofs.lemmas.Str.{digit_value-digit_char}
use Rattle.std.specs.declared.net.ip_addr.IpAddr.{IpAddr}
use Rattle.std.specs.declared.net.ip_addr.IpAddr.TheVariants.{V4, V6}
use Rattle.std.specs.Net.Text.{ip_text}
use Rattle.filter_tokens.specs.declared.network.Network.{Network}
use Rattle.filter_tokens.specs.declared.primitive.FieldLayer.{FieldLayer}
use Rattle.filter_tokens.specs.declared.primitive.FieldLayer.TheVariants as field
use Rattle.filter_tokens.specs.declared.primitive.Operand.{Operand}
use Rattle.filter_tokens.specs.declared.primitive.Operand.TheVariants.{Length, Bytes}
use Rattle.filter_tokens.specs.declared.primitive.Primitive.{Primitive}
use Rattle.filter_tokens.specs.declared.primitive.Primitive.TheVariants as primitive
use Rattle.filter_tokens.specs.declared.primitive.Relation.{Relation}
use Rattle.filter_tokens.specs.declared.primitive.Relation.TheVariants.{Equal, NotEqual, Less, LessOrEqual, Greater, GreaterOrEqual}
use Rattle.filter_tokens.specs.declared.primitive.Width.{Width}
use Rattle.filter_tokens.specs.declared.primitive.Width.TheVariants.{One, Two, Four}
use Rattle.filter_tokens.specs.declared.keyword.Keyword.TheVariants as name
use Rattle.filter_tokens.specs.Networks.{address_width}
use Rattle.filter_tokens.specs.Tokens.{Token, first_token, is_alphanumeric, is_digit, is_run_byte, keyword, word, and, or, relation, left_parenthesis, right_parenthesis, left_bracket, right_bracket, colon, slash, ampersand}
use Rattle.filter_tokens.specs.Values.{most_number}
use Rattle.filter_tokens.specs.PrimitiveTexts.{field_text, hex_digit, hex_pair, layer_text, mask_text, network_text, operand_text, port_range_text, ports_text, primitive_text, relation_text, side_text, station_text, version_text, width_text}
use Rattle.filter_language.specs.Printing.{expression_text, grouped}
use Rattle.filter_language.specs.Trees.{Expr, test, negated, both, either}
use Rattle.packet_filter.proofs.AddressTextLemmas.{Below, IsAddress, address_word, hex_digit_is, ip_text_is}
use Rattle.packet_filter.proofs.LexingLemmas
use Rattle.packet_filter.proofs.LexingLemmas.{IsLexed}
use Rattle.packet_filter.proofs.FitLemmas.{Fits, FitsOperand}
use Rattle.packet_filter.proofs.PrintedTokens.{FitsAll, field_token, grouped_tokens, layer_tokens, mask_tokens, network_tokens, operand_tokens, ports_tokens, primitive_tokens, printed_tokens, range_tokens, side_tokens, type_word, version_tokens, width_word}
use Rattle.packet_filter.proofs.WordTextLemmas
use Rattle.packet_filter.proofs.WordTextLemmas.{Each, IsWord, alphanumeric_of_digit, begins_word, colons, colons_append, each_append, if_false, if_true, plain_run, plain_of_alphanumeric, start_of_alphanumeric, decimal_begins, decimal_each, decimal_word, is_plain_byte, lexed_before_colon, lexed_start, lexed_word, range_word}
use Rattle.packet_filter.proofs.KeywordTextLemmas
use Rattle.packet_filter.proofs.KeywordTextLemmas.{IsApart, IsPrefixOf, IsTextOf, and_then, apart_stops, blank_then, close_then, ether_then, host_then, left_bracket_then, lexed_layer, lexed_ports, lexed_side, lexed_version, net_then, not_then, open_then, or_then, port_then, portrange_then, proto_then, right_bracket_then, same_text, same_tokens, slash_then, three_lists, three_texts, vlan_then}

-- ---- values

lexed_decimal : (number : ℕ) → number < 2 ^ 64 → IsTextOf (decimal number) (word (decimal number) ∷ [])
lexed_decimal number small rest more apart lexed =
    lexed_word (decimal number) rest more (decimal_word number small) (apart_stops rest apart) lexed

bits_small : (address : IpAddr) (bits : ℕ) → bits ≤ address_width address → bits < 2 ^ 64
bits_small (V4 a) bits few = omega (arith, few)
bits_small (V6 a) bits few = omega (arith, few)

lexed_network : (network : Network) → IsAddress network.address → network.bits < 2 ^ 64
    → ((network.bits ≡ address_width network.address) ⊎ (network.bits ≡ address_width network.address → ⊥))
    → IsTextOf (network_text network) (network_tokens network)
lexed_network network address small (inl all) rest more apart lexed =
    let test : Bool = network.bits == address_width network.address in
    let holds : test ≡ true = eq-eqb network.bits (address_width network.address) all in
    let text : List ℕ = ip_text network.address in
    let host : List Token = keyword name.Host ∷ word text ∷ [] in
    let net : List Token = keyword name.Net ∷ word text ∷ slash ∷ word (decimal network.bits) ∷ [] in
    same_text (codes "host " ++ (text ++ rest)) (network_text network ++ rest) (network_tokens network ++ more)
    (ap (λ (list : List ℕ). list ++ rest)
    (if_true test (codes "host " ++ text) (codes "net " ++ text ++ codes "/" ++ decimal network.bits) holds))
    (same_tokens (codes "host " ++ (text ++ rest)) (host ++ more) (network_tokens network ++ more)
    (ap (λ (list : List Token). list ++ more) (if_true test host net holds))
    (host_then (text ++ rest) (word text ∷ more)
    (lexed_word text rest more (address_word text network.address (ip_text_is network.address address))
    (apart_stops rest apart) lexed)))
lexed_network network address small (inr longer) rest more apart lexed =
    let test : Bool = network.bits == address_width network.address in
    let fails : test ≡ false = ne_eqb network.bits (address_width network.address) longer in
    let text : List ℕ = ip_text network.address in
    let bits : List ℕ = decimal network.bits in
    let host : List Token = keyword name.Host ∷ word text ∷ [] in
    let net : List Token = keyword name.Net ∷ word text ∷ slash ∷ word bits ∷ [] in
    same_text (codes "net " ++ (text ++ (47 ∷ (bits ++ rest)))) (network_text network ++ rest)
    (network_tokens network ++ more)
    (ap (λ (list : List ℕ). list ++ rest)
    (if_false test (codes "host " ++ text) (codes "net " ++ text ++ codes "/" ++ bits) fails)
    ∙ three_texts (codes "net " ++ text) (codes "/") bits rest
    ∙ append_assoc (codes "net ") text (codes "/" ++ (bits ++ rest)))
    (same_tokens (codes "net " ++ (text ++ (47 ∷ (bits ++ rest)))) (net ++ more) (network_tokens network ++ more)
    (ap (λ (list : List Token). list ++ more) (if_false test host net fails))
    (net_then (text ++ (47 ∷ (bits ++ rest))) (word text ∷ slash ∷ word bits ∷ more)
    (lexed_word text (47 ∷ (bits ++ rest)) (slash ∷ word bits ∷ more)
    (address_word text network.address (ip_text_is network.address address)) refl
    (slash_then (bits ++ rest) (word bits ∷ more) (lexed_decimal network.bits small rest more apart lexed)))))

lexed_range : (low high : ℕ) → low < 2 ^ 64 → high < 2 ^ 64 → ((low ≡ high) ⊎ (low ≡ high → ⊥))
    → IsTextOf (port_range_text low high) (range_tokens low high)
lexed_range low high small small' (inl same) rest more apart lexed =
    let holds : (low == high) ≡ true = eq-eqb low high same in
    let range : List ℕ = decimal low ++ codes "-" ++ decimal high in
    let one : List Token = keyword name.Port ∷ word (decimal low) ∷ [] in
    let two : List Token = keyword name.PortRange ∷ word range ∷ [] in
    same_text (codes "port " ++ (decimal low ++ rest)) (port_range_text low high ++ rest)
    (range_tokens low high ++ more)
    (ap (λ (list : List ℕ). list ++ rest)
    (if_true (low == high) (codes "port " ++ decimal low)
    (codes "portrange " ++ decimal low ++ codes "-" ++ decimal high) holds))
    (same_tokens (codes "port " ++ (decimal low ++ rest)) (one ++ more) (range_tokens low high ++ more)
    (ap (λ (list : List Token). list ++ more) (if_true (low == high) one two holds))
    (port_then (decimal low ++ rest) (word (decimal low) ∷ more) (lexed_decimal low small rest more apart lexed)))
lexed_range low high small small' (inr differ) rest more apart lexed =
    let fails : (low == high) ≡ false = ne_eqb low high differ in
    let range : List ℕ = decimal low ++ codes "-" ++ decimal high in
    let one : List Token = keyword name.Port ∷ word (decimal low) ∷ [] in
    let two : List Token = keyword name.PortRange ∷ word range ∷ [] in
    same_text (codes "portrange " ++ (range ++ rest)) (port_range_text low high ++ rest)
    (range_tokens low high ++ more)
    (ap (λ (list : List ℕ). list ++ rest)
    (if_false (low == high) (codes "port " ++ decimal low)
    (codes "portrange " ++ decimal low ++ codes "-" ++ decimal high) fails)
    ∙ three_texts (codes "portrange " ++ decimal low) (codes "-") (decimal high) rest
    ∙ append_assoc (codes "portrange ") (decimal low) (codes "-" ++ (decimal high ++ rest))
    ∙ ap (λ (list : List ℕ). codes "portrange " ++ list)
    (sym (three_texts (decimal low) (codes "-") (decimal high) rest)))
    (same_tokens (codes "portrange " ++ (range ++ rest)) (two ++ more) (range_tokens low high ++ more)
    (ap (λ (list : List Token). list ++ more) (if_false (low == high) one two fails))
    (portrange_then (range ++ rest) (word range ∷ more)
    (lexed_word range rest more (range_word low high small small') (apart_stops rest apart) lexed)))

hex_alphanumeric : (n : ℕ) → n < 16 → is_alphanumeric (hex_digit n) ≡ true
hex_alphanumeric n small =
    hex_digit_is (hex_digit n) (omega (arith, digit_value-digit_char n (omega (arith, small)), small))

hex_plain : (n : ℕ) → n < 16 → is_plain_byte (hex_digit n) ≡ true
hex_plain n small = plain_of_alphanumeric (hex_digit n) (hex_alphanumeric n small)

pair_plain : (byte : ℕ) → byte < 256 → Each is_plain_byte (hex_pair byte)
pair_plain byte small = (hex_plain (byte / 16) (omega (arith, small)), (hex_plain (byte % 16) (omega arith), tt))

type_is_word : (type : ℕ) → type ≤ 65535 → IsWord (type_word type)
type_is_word type small =
    WordTextLemmas.plain (type_word type) refl (
      refl,
      (
        refl,
        each_append is_plain_byte (hex_pair (type / 256)) (hex_pair (type % 256))
            (pair_plain (type / 256) (omega (arith, small))) (pair_plain (type % 256) (omega arith)),
      ),
    )

station_run : (octets : List ℕ) → Below 256 octets → Each is_run_byte (station_text octets)
station_run [] below = tt
station_run (octet ∷ []) below = plain_run (hex_pair octet) (pair_plain octet below.0)
station_run (octet ∷ following ∷ octets) below =
    let run = plain_run (hex_pair octet) (pair_plain octet below.0) in
    (run.0, (run.1.0, (refl, station_run (following ∷ octets) below.1)))

station_colons : (octets : List ℕ) → length octets ≤ colons (station_text octets) + 1
station_colons [] = omega arith
station_colons (octet ∷ []) = omega arith
station_colons (octet ∷ following ∷ octets) =
    let later : List ℕ = station_text (following ∷ octets) in
    let one : colons (codes ":") ≡ 1 = refl in
    omega (
      arith,
      one,
      colons_append (hex_pair octet) (58 ∷ later),
      colons_append (codes ":") later,
      station_colons (following ∷ octets),
    )

station_begins : (octets : List ℕ) → 0 < length octets → Below 256 octets → begins_word (station_text octets) ≡ true
station_begins [] some below = absurd (omega (arith, some))
station_begins (octet ∷ []) some below =
    start_of_alphanumeric (hex_digit (octet / 16)) (hex_alphanumeric (octet / 16) (omega (arith, below.0)))
station_begins (octet ∷ following ∷ octets) some below =
    start_of_alphanumeric (hex_digit (octet / 16)) (hex_alphanumeric (octet / 16) (omega (arith, below.0)))

station_is_word : (octets : List ℕ) → length octets ≡ 6 → Below 256 octets → IsWord (station_text octets)
station_is_word octets six below =
    WordTextLemmas.with_colons (station_text octets) (station_begins octets (omega (arith, six)) below)
    (station_run octets below) (omega (arith, six, station_colons octets))

-- ---- byte tests

lexed_field : (layer : FieldLayer) (rest : List ℕ) (more : List Token) → IsLexed (91 ∷ rest) more
    → IsLexed (field_text layer ++ 91 ∷ rest) (field_token layer ∷ more)
lexed_field field.Ethernet rest more lexed =
    lexed_start 101 (116 ∷ 104 ∷ 101 ∷ 114 ∷ []) (91 ∷ rest) (keyword name.Ether) more refl refl refl lexed
lexed_field field.Arp rest more lexed =
    lexed_start 97 (114 ∷ 112 ∷ []) (91 ∷ rest) (keyword name.Arp) more refl refl refl lexed
lexed_field field.Ipv4 rest more lexed =
    lexed_start 105 (112 ∷ []) (91 ∷ rest) (keyword name.Ip) more refl refl refl lexed
lexed_field field.Ipv6 rest more lexed =
    lexed_start 105 (112 ∷ 54 ∷ []) (91 ∷ rest) (keyword name.Ip6) more refl refl refl lexed
lexed_field field.Tcp rest more lexed =
    lexed_start 116 (99 ∷ 112 ∷ []) (91 ∷ rest) (keyword name.Tcp) more refl refl refl lexed
lexed_field field.Udp rest more lexed =
    lexed_start 117 (100 ∷ 112 ∷ []) (91 ∷ rest) (keyword name.Udp) more refl refl refl lexed
lexed_field field.Sctp rest more lexed =
    lexed_start 115 (99 ∷ 116 ∷ 112 ∷ []) (91 ∷ rest) (keyword name.Sctp) more refl refl refl lexed
lexed_field field.Icmpv4 rest more lexed =
    lexed_start 105 (99 ∷ 109 ∷ 112 ∷ []) (91 ∷ rest) (keyword name.Icmp) more refl refl refl lexed
lexed_field field.Icmpv6 rest more lexed =
    lexed_start 105 (99 ∷ 109 ∷ 112 ∷ 54 ∷ []) (91 ∷ rest) (keyword name.Icmp6) more refl refl refl lexed

-- An offset, and a size of one digit after a colon.
lexed_offset : (offset digit : ℕ) (rest : List ℕ) (more : List Token) → offset < 2 ^ 64 → is_digit digit ≡ true
    → IsLexed rest more
    → first_token (58 ∷ ([] ++ digit ∷ 93 ∷ rest)) ≡ (1, colon)
    → IsLexed (decimal offset ++ 58 ∷ digit ∷ 93 ∷ rest)
    (word (decimal offset) ∷ colon ∷ word (digit ∷ []) ∷ right_bracket ∷ more)
lexed_offset offset digit rest more small is lexed symbol =
    let plain_digit : is_plain_byte digit ≡ true = plain_of_alphanumeric digit (alphanumeric_of_digit digit is) in
    lexed_before_colon (decimal offset) digit (93 ∷ rest) (colon ∷ word (digit ∷ []) ∷ right_bracket ∷ more)
    (decimal_begins offset small) (decimal_each offset small) plain_digit refl
    (LexingLemmas.piece 58 [] (digit ∷ 93 ∷ rest) colon (word (digit ∷ []) ∷ right_bracket ∷ more) refl symbol
    (lexed_word (digit ∷ []) (93 ∷ rest) (right_bracket ∷ more)
    (WordTextLemmas.plain (digit ∷ []) is (plain_digit, tt)) refl (right_bracket_then rest more lexed)))

lexed_size : (offset : ℕ) (width : Width) (rest : List ℕ) (more : List Token) → offset < 2 ^ 64 → IsLexed rest more
    → IsLexed (decimal offset ++ (width_text width ++ rest))
    (word (decimal offset) ∷ colon ∷ word (width_word width) ∷ right_bracket ∷ more)
lexed_size offset One rest more small lexed = lexed_offset offset 49 rest more small refl lexed refl
lexed_size offset Two rest more small lexed = lexed_offset offset 50 rest more small refl lexed refl
lexed_size offset Four rest more small lexed = lexed_offset offset 52 rest more small refl lexed refl

lexed_operand : (operand : Operand) → FitsOperand operand → IsTextOf (operand_text operand) (operand_tokens operand)
lexed_operand Length fits rest more KeywordTextLemmas.at_end lexed =
    lexed_start 108 (101 ∷ 110 ∷ []) [] (keyword name.Len) more refl refl refl lexed
lexed_operand Length fits rest more (KeywordTextLemmas.at_blank text) lexed =
    lexed_start 108 (101 ∷ 110 ∷ []) (32 ∷ text) (keyword name.Len) more refl refl refl lexed
lexed_operand Length fits rest more (KeywordTextLemmas.at_parenthesis text) lexed =
    lexed_start 108 (101 ∷ 110 ∷ []) (41 ∷ text) (keyword name.Len) more refl refl refl lexed
lexed_operand (Bytes layer offset width) fits rest more apart lexed =
    let number : List ℕ = decimal offset in
    let later : List ℕ = number ++ (width_text width ++ rest) in
    let tokens : List Token = word number ∷ colon ∷ word (width_word width) ∷ right_bracket ∷ more in
    same_text (field_text layer ++ 91 ∷ later) (operand_text (Bytes layer offset width) ++ rest)
    (operand_tokens (Bytes layer offset width) ++ more)
    (three_texts (field_text layer ++ codes "[") number (width_text width) rest
    ∙ append_assoc (field_text layer) (codes "[") later)
    (lexed_field layer later (left_bracket ∷ tokens)
    (left_bracket_then later tokens (lexed_size offset width rest more (omega (arith, fits)) lexed)))

-- A text that begins with a blank.
lexed_relation : (by : Relation) (rest : List ℕ) (more : List Token) → IsLexed rest more
    → IsLexed (relation_text by ++ rest) (relation by ∷ more) × IsApart (relation_text by ++ rest)
lexed_relation Equal rest more lexed = (
  blank_then (61 ∷ 32 ∷ rest) (relation Equal ∷ more)
      (LexingLemmas.piece 61 [] (32 ∷ rest) (relation Equal) more refl refl (blank_then rest more lexed)),
  KeywordTextLemmas.at_blank (61 ∷ 32 ∷ rest),
)
lexed_relation NotEqual rest more lexed = (
  blank_then (33 ∷ 61 ∷ 32 ∷ rest) (relation NotEqual ∷ more)
      (LexingLemmas.piece 33 (61 ∷ []) (32 ∷ rest) (relation NotEqual) more refl refl (blank_then rest more lexed)),
  KeywordTextLemmas.at_blank (33 ∷ 61 ∷ 32 ∷ rest),
)
lexed_relation Less rest more lexed = (
  blank_then (60 ∷ 32 ∷ rest) (relation Less ∷ more)
      (LexingLemmas.piece 60 [] (32 ∷ rest) (relation Less) more refl refl (blank_then rest more lexed)),
  KeywordTextLemmas.at_blank (60 ∷ 32 ∷ rest),
)
lexed_relation LessOrEqual rest more lexed = (
  blank_then (60 ∷ 61 ∷ 32 ∷ rest) (relation LessOrEqual ∷ more)
      (LexingLemmas.piece 60 (61 ∷ []) (32 ∷ rest) (relation LessOrEqual) more refl refl (blank_then rest more lexed)),
  KeywordTextLemmas.at_blank (60 ∷ 61 ∷ 32 ∷ rest),
)
lexed_relation Greater rest more lexed = (
  blank_then (62 ∷ 32 ∷ rest) (relation Greater ∷ more)
      (LexingLemmas.piece 62 [] (32 ∷ rest) (relation Greater) more refl refl (blank_then rest more lexed)),
  KeywordTextLemmas.at_blank (62 ∷ 32 ∷ rest),
)
lexed_relation GreaterOrEqual rest more lexed = (
  blank_then (62 ∷ 61 ∷ 32 ∷ rest) (relation GreaterOrEqual ∷ more)
      (LexingLemmas.piece 62 (61 ∷ []) (32 ∷ rest) (relation GreaterOrEqual) more refl refl
      (blank_then rest more lexed)),
  KeywordTextLemmas.at_blank (62 ∷ 61 ∷ 32 ∷ rest),
)

-- A mask before a text that begins with a blank.
lexed_mask : (mask : ℕ) (rest : List ℕ) (more : List Token) → mask < 2 ^ 64
    → ((mask ≡ most_number) ⊎ (mask ≡ most_number → ⊥)) → IsApart rest → IsLexed rest more
    → IsLexed (mask_text mask ++ rest) (mask_tokens mask ++ more) × IsApart (mask_text mask ++ rest)
lexed_mask mask rest more small (inl all) apart lexed =
    let holds : (mask == most_number) ≡ true = eq-eqb mask most_number all in
    let none : mask_text mask ≡ [] = if_true (mask == most_number) [] (codes " & " ++ decimal mask) holds in
    let no_tokens : mask_tokens mask ≡ [] =
    if_true (mask == most_number) [] (ampersand ∷ word (decimal mask) ∷ []) holds in (
      same_text rest (mask_text mask ++ rest) (mask_tokens mask ++ more) (ap (λ (list : List ℕ). list ++ rest) none)
          (same_tokens rest more (mask_tokens mask ++ more) (ap (λ (list : List Token). list ++ more) no_tokens) lexed),
      subst IsApart (sym (ap (λ (list : List ℕ). list ++ rest) none)) apart,
    )
lexed_mask mask rest more small (inr masks) apart lexed =
    let fails : (mask == most_number) ≡ false = ne_eqb mask most_number masks in
    let text_is : mask_text mask ≡ codes " & " ++ decimal mask =
    if_false (mask == most_number) [] (codes " & " ++ decimal mask) fails in
    let tokens : List Token = ampersand ∷ word (decimal mask) ∷ [] in
    let tokens_are : mask_tokens mask ≡ tokens = if_false (mask == most_number) [] tokens fails in
    let text : List ℕ = 38 ∷ 32 ∷ (decimal mask ++ rest) in (
      same_text (32 ∷ text) (mask_text mask ++ rest) (mask_tokens mask ++ more)
          (ap (λ (list : List ℕ). list ++ rest) text_is)
          (same_tokens (32 ∷ text) (tokens ++ more) (mask_tokens mask ++ more)
          (ap (λ (list : List Token). list ++ more) tokens_are)
          (blank_then text (tokens ++ more)
          (LexingLemmas.piece 38 [] (32 ∷ (decimal mask ++ rest)) ampersand (word (decimal mask) ∷ more) refl refl
          (blank_then (decimal mask ++ rest) (word (decimal mask) ∷ more)
          (lexed_decimal mask small rest more apart lexed))))),
      subst IsApart (sym (ap (λ (list : List ℕ). list ++ rest) text_is)) (KeywordTextLemmas.at_blank text),
    )

lexed_number : (operand : Operand) (mask : ℕ) (by : Relation) (number : ℕ)
    → Fits (primitive.Number operand mask by number)
    → IsTextOf (primitive_text (primitive.Number operand mask by number))
    (primitive_tokens (primitive.Number operand mask by number))
lexed_number operand mask by number (fits, small_mask, small) rest more apart lexed =
    let value : List ℕ = decimal number ++ rest in
    let (related, related_apart) =
    lexed_relation by value (word (decimal number) ∷ more)
    (lexed_decimal number (omega (arith, small)) rest more apart lexed) in
    let (masked, masked_apart) =
    lexed_mask mask (relation_text by ++ value) (relation by ∷ word (decimal number) ∷ more) (omega (arith, small_mask))
    (cases_eq mask most_number) related_apart related in
    let all : IsLexed (operand_text operand ++ (mask_text mask ++ (relation_text by ++ value)))
    (operand_tokens operand ++ (mask_tokens mask ++ relation by ∷ word (decimal number) ∷ more)) =
    lexed_operand operand fits (mask_text mask ++ (relation_text by ++ value))
    (mask_tokens mask ++ relation by ∷ word (decimal number) ∷ more) masked_apart masked in
    same_text (operand_text operand ++ (mask_text mask ++ (relation_text by ++ value)))
    (primitive_text (primitive.Number operand mask by number) ++ rest)
    (primitive_tokens (primitive.Number operand mask by number) ++ more)
    (three_texts (operand_text operand ++ mask_text mask) (relation_text by) (decimal number) rest
    ∙ append_assoc (operand_text operand) (mask_text mask) (relation_text by ++ value))
    (same_tokens (operand_text operand ++ (mask_text mask ++ (relation_text by ++ value)))
    (operand_tokens operand ++ (mask_tokens mask ++ relation by ∷ word (decimal number) ∷ more))
    (primitive_tokens (primitive.Number operand mask by number) ++ more)
    (three_lists (operand_tokens operand) (mask_tokens mask) (relation by ∷ word (decimal number) ∷ []) more) all)

-- ---- primitives

lexed_vlan : (rest : List ℕ) (more : List Token) → IsApart rest → IsLexed rest more
    → IsLexed (codes "vlan" ++ rest) (keyword name.Vlan ∷ more)
lexed_vlan rest more KeywordTextLemmas.at_end lexed =
    lexed_start 118 (108 ∷ 97 ∷ 110 ∷ []) [] (keyword name.Vlan) more refl refl refl lexed
lexed_vlan rest more (KeywordTextLemmas.at_blank text) lexed =
    lexed_start 118 (108 ∷ 97 ∷ 110 ∷ []) (32 ∷ text) (keyword name.Vlan) more refl refl refl lexed
lexed_vlan rest more (KeywordTextLemmas.at_parenthesis text) lexed =
    lexed_start 118 (108 ∷ 97 ∷ 110 ∷ []) (41 ∷ text) (keyword name.Vlan) more refl refl refl lexed

lexed_primitive : (p : Primitive) → Fits p → IsTextOf (primitive_text p) (primitive_tokens p)
lexed_primitive (primitive.EtherType type) fits rest more apart lexed =
    let text : List ℕ = type_word type.0 ++ rest in
    ether_then (codes "proto " ++ text) (keyword name.Proto ∷ word (type_word type.0) ∷ more)
    (proto_then text (word (type_word type.0) ∷ more)
    (lexed_word (type_word type.0) rest more (type_is_word type.0 fits.1) (apart_stops rest apart) lexed))
lexed_primitive (primitive.Protocol ip number) fits rest more apart lexed =
    let value : List ℕ = decimal number.0 ++ rest in
    let text : List ℕ = codes "proto " ++ value in
    let tokens : List Token = keyword name.Proto ∷ word (decimal number.0) ∷ [] in
    same_text (version_text ip ++ text) (primitive_text (primitive.Protocol ip number) ++ rest)
    (primitive_tokens (primitive.Protocol ip number) ++ more)
    (three_texts (version_text ip) (codes "proto ") (decimal number.0) rest)
    (same_tokens (version_text ip ++ text) (version_tokens ip ++ (tokens ++ more))
    (primitive_tokens (primitive.Protocol ip number) ++ more) (append_assoc (version_tokens ip) tokens more)
    (lexed_version ip text (tokens ++ more)
    (proto_then value (word (decimal number.0) ∷ more)
    (lexed_decimal number.0 (omega (arith, fits)) rest more apart lexed))))
lexed_primitive (primitive.Address layer side network) (address, family, few, none) rest more apart lexed =
    let text : List ℕ = network_text network ++ rest in
    let tokens : List Token = network_tokens network ++ more in
    same_text (layer_text layer ++ (side_text side ++ text))
    (primitive_text (primitive.Address layer side network) ++ rest)
    (primitive_tokens (primitive.Address layer side network) ++ more)
    (three_texts (layer_text layer) (side_text side) (network_text network) rest)
    (same_tokens (layer_text layer ++ (side_text side ++ text)) (layer_tokens layer ++ (side_tokens side ++ tokens))
    (primitive_tokens (primitive.Address layer side network) ++ more)
    (three_lists (layer_tokens layer) (side_tokens side) (network_tokens network) more)
    (lexed_layer layer (side_text side ++ text) (side_tokens side ++ tokens)
    (lexed_side side text tokens
    (lexed_network network address (bits_small network.address network.bits few)
    (cases_eq network.bits (address_width network.address)) rest more apart lexed))))
lexed_primitive (primitive.Station side octets) (six, below) rest more apart lexed =
    let value : List ℕ = station_text octets ++ rest in
    let text : List ℕ = codes "host " ++ value in
    let tokens : List Token = keyword name.Host ∷ word (station_text octets) ∷ [] in
    same_text (codes "ether " ++ (side_text side ++ text)) (primitive_text (primitive.Station side octets) ++ rest)
    (primitive_tokens (primitive.Station side octets) ++ more)
    (three_texts (codes "ether " ++ side_text side) (codes "host ") (station_text octets) rest
    ∙ append_assoc (codes "ether ") (side_text side) text)
    (same_tokens (codes "ether " ++ (side_text side ++ text))
    (keyword name.Ether ∷ (side_tokens side ++ (tokens ++ more)))
    (primitive_tokens (primitive.Station side octets) ++ more)
    (ap (λ (list : List Token). keyword name.Ether ∷ list) (append_assoc (side_tokens side) tokens more))
    (ether_then (side_text side ++ text) (side_tokens side ++ (tokens ++ more))
    (lexed_side side text (tokens ++ more)
    (host_then value (word (station_text octets) ∷ more)
    (lexed_word (station_text octets) rest more (station_is_word octets six below) (apart_stops rest apart) lexed)))))
lexed_primitive (primitive.Port ports side low high) (ordered, small) rest more apart lexed =
    let text : List ℕ = port_range_text low high ++ rest in
    let tokens : List Token = range_tokens low high ++ more in
    same_text (ports_text ports ++ (side_text side ++ text))
    (primitive_text (primitive.Port ports side low high) ++ rest)
    (primitive_tokens (primitive.Port ports side low high) ++ more)
    (three_texts (ports_text ports) (side_text side) (port_range_text low high) rest)
    (same_tokens (ports_text ports ++ (side_text side ++ text)) (ports_tokens ports ++ (side_tokens side ++ tokens))
    (primitive_tokens (primitive.Port ports side low high) ++ more)
    (three_lists (ports_tokens ports) (side_tokens side) (range_tokens low high) more)
    (lexed_ports ports (side_text side ++ text) (side_tokens side ++ tokens)
    (lexed_side side text tokens
    (lexed_range low high (omega (arith, ordered, small)) (omega (arith, small)) (cases_eq low high) rest more apart
    lexed))))
lexed_primitive (primitive.Vlan None) fits rest more apart lexed = lexed_vlan rest more apart lexed
lexed_primitive (primitive.Vlan (Some id)) fits rest more apart lexed =
    vlan_then (decimal id ++ rest) (word (decimal id) ∷ more)
    (lexed_decimal id (omega (arith, fits)) rest more apart lexed)
lexed_primitive (primitive.Number operand mask by number) fits rest more apart lexed =
    lexed_number operand mask by number fits rest more apart lexed

-- ---- expressions

-- A text in parentheses.
lexed_parentheses : (text : List ℕ) (tokens : List Token) → IsTextOf text tokens
    → IsTextOf (codes "(" ++ text ++ codes ")") (left_parenthesis ∷ tokens ++ right_parenthesis ∷ [])
lexed_parentheses text tokens is rest more apart lexed =
    same_text (40 ∷ (text ++ 41 ∷ rest)) ((codes "(" ++ text ++ codes ")") ++ rest)
    ((left_parenthesis ∷ tokens ++ right_parenthesis ∷ []) ++ more)
    (ap (λ (list : List ℕ). 40 ∷ list) (append_assoc text (codes ")") rest))
    (same_tokens (40 ∷ (text ++ 41 ∷ rest)) (left_parenthesis ∷ (tokens ++ right_parenthesis ∷ more))
    ((left_parenthesis ∷ tokens ++ right_parenthesis ∷ []) ++ more)
    (ap (λ (list : List Token). left_parenthesis ∷ list) (append_assoc tokens (right_parenthesis ∷ []) more))
    (open_then (text ++ 41 ∷ rest) (tokens ++ right_parenthesis ∷ more)
    (is (41 ∷ rest) (right_parenthesis ∷ more) (KeywordTextLemmas.at_parenthesis rest) (close_then rest more lexed))))

lexed_grouped : (e : Expr) (text : List ℕ) (tokens : List Token) → IsTextOf text tokens
    → IsTextOf (grouped e text) (grouped_tokens e tokens)
lexed_grouped (test p) text tokens is = is
lexed_grouped (negated e) text tokens is = is
lexed_grouped (both e f) text tokens is = lexed_parentheses text tokens is
lexed_grouped (either e f) text tokens is = lexed_parentheses text tokens is

-- Two texts with an operator between them.
lexed_joined : (left middle right : List ℕ) (left_tokens : List Token) (operator : Token) (right_tokens : List Token)
    → IsTextOf left left_tokens → IsTextOf right right_tokens → IsPrefixOf middle (operator ∷ [])
    → IsTextOf (left ++ 32 ∷ (middle ++ right)) (left_tokens ++ operator ∷ right_tokens)
lexed_joined left middle right left_tokens operator right_tokens is is_right prefix rest more apart lexed =
    let text : List ℕ = middle ++ (right ++ rest) in
    let tokens : List Token = operator ∷ (right_tokens ++ more) in
    same_text (left ++ 32 ∷ text) ((left ++ 32 ∷ (middle ++ right)) ++ rest)
    ((left_tokens ++ operator ∷ right_tokens) ++ more)
    (append_assoc left (32 ∷ (middle ++ right)) rest
    ∙ ap (λ (list : List ℕ). left ++ 32 ∷ list) (append_assoc middle right rest))
    (same_tokens (left ++ 32 ∷ text) (left_tokens ++ tokens) ((left_tokens ++ operator ∷ right_tokens) ++ more)
    (append_assoc left_tokens (operator ∷ right_tokens) more)
    (is (32 ∷ text) tokens (KeywordTextLemmas.at_blank text)
    (blank_then text tokens (prefix (right ++ rest) (right_tokens ++ more) (is_right rest more apart lexed)))))

tokens_of_equal : (text other : List ℕ) (tokens : List Token) → other ≡ text → IsTextOf text tokens → IsTextOf other tokens
tokens_of_equal text other tokens same is = subst (λ (list : List ℕ). IsTextOf list tokens) (sym same) is

-- The text of an expression that fits consists of its tokens.
pub lexed_expression : (e : Expr) → FitsAll e → IsTextOf (expression_text e) (printed_tokens e)
lexed_expression (test p) fits = lexed_primitive p fits
lexed_expression (negated e) fits =
    λ rest more apart lexed.
    not_then (grouped e (expression_text e) ++ rest) (grouped_tokens e (printed_tokens e) ++ more)
    (lexed_grouped e (expression_text e) (printed_tokens e) (lexed_expression e fits) rest more apart lexed)
lexed_expression (both e f) fits =
    let right : List ℕ = grouped f (expression_text f) in
    tokens_of_equal (expression_text e ++ 32 ∷ (codes "and " ++ right)) (expression_text (both e f))
    (printed_tokens (both e f)) (append_assoc (expression_text e) (codes " and ") right)
    (lexed_joined (expression_text e) (codes "and ") right (printed_tokens e) and
    (grouped_tokens f (printed_tokens f)) (lexed_expression e fits.0)
    (lexed_grouped f (expression_text f) (printed_tokens f) (lexed_expression f fits.1)) and_then)
lexed_expression (either e f) fits =
    let right : List ℕ = grouped f (expression_text f) in
    tokens_of_equal (expression_text e ++ 32 ∷ (codes "or " ++ right)) (expression_text (either e f))
    (printed_tokens (either e f)) (append_assoc (expression_text e) (codes " or ") right)
    (lexed_joined (expression_text e) (codes "or ") right (printed_tokens e) or
    (grouped_tokens f (printed_tokens f)) (lexed_expression e fits.0)
    (lexed_grouped f (expression_text f) (printed_tokens f) (lexed_expression f fits.1)) or_then)
