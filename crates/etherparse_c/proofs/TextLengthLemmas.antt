-- Lengths of the texts of errors.
use Rattle.std.proofs.Common.{◌≡◌, ℕ, zero, suc, ◌==◌, ◌<◌, ◌≤◌, ◌^◌, ◌++◌, arith, Bool, true, false, if◌then◌else◌}
use Rattle.std.proofs.Common.{List, length, length-append, Option, Some, None}
use Rattle.std.proofs.lemmas.Fmt.{decimal-digits_of, length-decimal-le_succ}
use Rattle.std.proofs.lemmas.Int.Digits.{length-digits_of-le}
use Rattle.std.proofs.lemmas.List.{length-map}
use Rattle.std.proofs.lemmas.Option.{MatchOption-at_some}
use Rattle.std.specs.Fmt.{decimal}
use Rattle.std.specs.Option.{option_map}
use Rattle.std.specs.Prelude.{IfSome, ⊤, codes}
use Rattle.etherparse.specs.Names.{layer_name, len_source_name}
use Rattle.etherparse.specs.Types.Layer.{Layer}
use Rattle.etherparse.specs.Types.Layer.TheVariants as layer
use Rattle.etherparse.specs.Types.LenError.{LenError}
use Rattle.etherparse.specs.Types.LenSource.{LenSource}
use Rattle.etherparse.specs.Types.LenSource.TheVariants as source
use Rattle.etherparse.specs.Types.SliceError.{SliceError}
use Rattle.refusal_texts.specs.ReasonTexts.{len_error_text, limit_text, needed_text, reason_text_with}
use Rattle.etherparse_c.specs.RefusalTexts.{content_error_of, error_of_numbers, layer_of_number, len_error_of, source_of_number, text_of_number}
use Rattle.etherparse_c.specs.declared.packet.Refusal.{Refusal}

-- ---- the parts of a text

-- A number of 64 bits has at most 20 digits.
decimal_fits : (n : ℕ) → n < 2 ^ 64 → length (decimal n) ≤ 20
decimal_fits zero small = omega (arith, length-decimal-le_succ 0 small)
decimal_fits (suc n) small =
    let fits : suc n < 10 ^ 20 = omega arith in
    rw (decimal-digits_of (suc n) (omega arith) small, length-map)
    (length-digits_of-le 10 20 (suc n) (omega arith) fits)

layer_name_fits : (it : Layer) → length (layer_name it) ≤ 20
layer_name_fits layer.Ethernet2Header = omega arith
layer_name_fits layer.LinuxSllHeader = omega arith
layer_name_fits layer.VlanHeader = omega arith
layer_name_fits layer.MacsecHeader = omega arith
layer_name_fits layer.MacsecPacket = omega arith
layer_name_fits layer.Arp = omega arith
layer_name_fits layer.IpHeader = omega arith
layer_name_fits layer.Ipv4Header = omega arith
layer_name_fits layer.Ipv4Packet = omega arith
layer_name_fits layer.IpAuthHeader = omega arith
layer_name_fits layer.Ipv6Header = omega arith
layer_name_fits layer.Ipv6Packet = omega arith
layer_name_fits layer.Ipv6ExtHeader = omega arith
layer_name_fits layer.Ipv6FragHeader = omega arith
layer_name_fits layer.UdpHeader = omega arith
layer_name_fits layer.UdpPayload = omega arith
layer_name_fits layer.TcpHeader = omega arith
layer_name_fits layer.Icmpv4 = omega arith
layer_name_fits layer.Icmpv4Timestamp = omega arith
layer_name_fits layer.Icmpv4TimestampReply = omega arith
layer_name_fits layer.Icmpv6 = omega arith

source_name_fits : (it : LenSource) → length (len_source_name it) ≤ 20
source_name_fits source.Slice = omega arith
source_name_fits source.MacsecShortLength = omega arith
source_name_fits source.Ipv4HeaderTotalLen = omega arith
source_name_fits source.Ipv6HeaderPayloadLen = omega arith
source_name_fits source.UdpHeaderLen = omega arith
source_name_fits source.ArpAddrLengths = omega arith

-- ---- texts

-- The longest text: two names and three numbers of 20 bytes each, and 41 bytes between them.
len_error_fits : (error : LenError) → error.required_len < 2 ^ 64 → error.len < 2 ^ 64
    → error.layer_start_offset < 2 ^ 64 → length (len_error_text error) ≤ 141
unfolding needed_text limit_text
len_error_fits error required len offset =
    let layer_fits = layer_name_fits error.layer in
    let end_fits = source_name_fits error.len_source in
    let required_fits = decimal_fits error.required_len required in
    let len_fits = decimal_fits error.len len in
    let offset_fits = decimal_fits error.layer_start_offset offset in
    simp length-append (omega arith)

numbered_fits : (name : List ℕ) (number : ℕ) → length name ≤ 34 → number < 2 ^ 64
    → length (name ++ decimal number) ≤ 141
numbered_fits name number name_fits small =
    let number_fits = decimal_fits number small in
    simp length-append (omega arith)

-- ---- texts of numbers from C

-- If a property holds for both branches of a choice, it holds for the result.
either : {X : Type 0} (Holds : X → Type 0) (first : Bool) (one other : Option X) → IfSome one Holds
    → IfSome other Holds → IfSome (if first then one else other) Holds
either Holds true one other of_one of_other = of_one
either Holds false one other of_one of_other = of_other

-- The text of an error with this field value has at most 141 bytes.
abbrev TextFits : ℕ → SliceError → Type 0
TextFits number error = length (reason_text_with error number) ≤ 141

len_text_fits : (refusal : Refusal) (layer : Option Layer) (end : Option LenSource)
    → refusal.required_len < 2 ^ 64 → refusal.len < 2 ^ 64 → refusal.layer_start_offset < 2 ^ 64
    → IfSome (len_error_of refusal layer end) (TextFits refusal.number)
len_text_fits refusal None end required len offset = tt
len_text_fits refusal (Some layer) None required len offset = tt
len_text_fits refusal (Some layer) (Some end) required len offset = len_error_fits _ required len offset

content_text_fits : (kind number : ℕ) → number < 2 ^ 64 → IfSome (content_error_of kind) (TextFits number)
content_text_fits kind number small =
    let numbered : (name : List ℕ) → length name ≤ 34 → length (name ++ decimal number) ≤ 141 =
    λ name fits. numbered_fits name number fits small in
    let at : (n : ℕ) (one other : Option SliceError) → IfSome one (TextFits number) → IfSome other (TextFits number)
    → IfSome (if kind == n then one else other) (TextFits number) =
    λ n one other. either (TextFits number) (kind == n) one other in
    at 2 _ _ (numbered (codes "UnsupportedPacketTypeField ") (omega arith))
    (at 3 _ _ (numbered (codes "UnsupportedArpHardwareId ") (omega arith))
    (at 4 _ _ (omega arith) (at 5 _ _ (omega arith)
    (at 6 _ _ (numbered (codes "UnsupportedIpVersion ") (omega arith))
    (at 7 _ _ (numbered (codes "Ipv4HeaderLengthSmallerThanHeader ") (omega arith))
    (at 8 _ _ (numbered (codes "UnexpectedVersion ") (omega arith))
    (at 9 _ _ (numbered (codes "HeaderLengthSmallerThanHeader ") (omega arith))
    (at 10 _ _ (numbered (codes "UnexpectedVersion ") (omega arith))
    (at 11 _ _ (omega arith) (at 12 _ _ (omega arith) (at 13 _ _ (omega arith)
    (at 14 _ _ (numbered (codes "DataOffsetTooSmall ") (omega arith)) tt))))))))))))

-- If the error's text fits, so does the text of the numbers.
text_fits : (converted : Option SliceError) (number : ℕ) → IfSome converted (TextFits number)
    → IfSome (option_map (λ error. reason_text_with error number) converted) (λ text. length text ≤ 141)
text_fits None number fits = tt
text_fits (Some error) number fits = fits

pub texts_fit : (refusal : Refusal) (text : List ℕ) → refusal.number < 2 ^ 32
    → refusal.required_len < 2 ^ 64 → refusal.len < 2 ^ 64 → refusal.layer_start_offset < 2 ^ 64
    → text_of_number refusal ≡ Some text → length text ≤ 141
texts_fit refusal text number required len offset is_text =
    MatchOption-at_some ⊤ (λ text. length text ≤ 141) text is_text (text_fits (error_of_numbers refusal) refusal.number
    (either (TextFits refusal.number) (refusal.kind == 1) _ _
    (len_text_fits refusal (layer_of_number refusal.layer) (source_of_number refusal.len_source) required len offset)
    (content_text_fits refusal.kind refusal.number (omega arith))))
