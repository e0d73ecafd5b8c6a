-- Lemmas about tokens after the names of layers and after sides.
use Rattle.std.proofs.Common.{◌≡◌, ℕ, List, Option, Some, Bool, Result, Ok, Err, refl, ap, sym, subst}
use Rattle.std.specs.Prelude.{IfOk, IfErr, true}
use Rattle.std.specs.declared.net.ip_addr.IpAddr.{IpAddr}
use Rattle.filter_tokens.specs.declared.filter_error.FilterErrorKind.{FilterErrorKind}
use Rattle.filter_tokens.specs.declared.keyword.Keyword.{Keyword}
use Rattle.filter_tokens.specs.declared.keyword.Keyword.TheVariants as name
use Rattle.filter_tokens.specs.declared.primitive.AddressLayer.{AddressLayer}
use Rattle.filter_tokens.specs.declared.primitive.AddressLayer.TheVariants as of
use Rattle.filter_tokens.specs.declared.primitive.Primitive.TheVariants as primitive
use Rattle.filter_tokens.specs.declared.primitive.Side.{Side}
use Rattle.filter_tokens.specs.declared.token.TokenKind.{TokenKind}
use Rattle.filter_tokens.specs.declared.token.TokenKind.TheVariants as kind
use Rattle.filter_tokens.specs.Networks.{has_no_host_bits}
use Rattle.filter_tokens.specs.ShownTokens.{shown_token}
use Rattle.filter_tokens.specs.Values.{IsLength, IsMask}
use Rattle.filter_language.specs.declared.head.Head.{Head}
use Rattle.filter_language.specs.declared.mode.Mode.{Mode}
use Rattle.filter_language.specs.declared.mode.Mode.TheVariants as mode
use Rattle.filter_language.specs.declared.mode.Sided.{Sided}
use Rattle.filter_language.specs.declared.change.Change.{Change}
use Rattle.filter_language.specs.declared.change.Change.TheVariants as change
use Rattle.filter_language.specs.declared.change.Completion.TheVariants as completion
use Rattle.filter_language.specs.Changes.{IsModeChange, IsValueChange, IsWordChange, StopsMode, StopsWordIn, changed, state_in}
use Rattle.filter_language.specs.States.{State, StopsSide, StopsValue, read_address_word, read_layer_word, read_side_values, read_sided, side_head}

-- After `ip` and `ip6`, other keywords than `proto` and `multicast` are qualifiers of addresses.
pub address_of_ip : (state : State) (following : Keyword) → (following ≡ name.Proto → ⊥)
    → (following ≡ name.Multicast → ⊥)
    → read_layer_word state name.Ip following ≡ read_address_word state of.Ipv4 following
address_of_ip state name.Proto not_proto not_multicast = absurd (not_proto refl)
address_of_ip state name.Multicast not_proto not_multicast = absurd (not_multicast refl)
address_of_ip state following not_proto not_multicast = refl

pub address_of_ip6 : (state : State) (following : Keyword) → (following ≡ name.Proto → ⊥)
    → (following ≡ name.Multicast → ⊥)
    → read_layer_word state name.Ip6 following ≡ read_address_word state of.Ipv6 following
address_of_ip6 state name.Proto not_proto not_multicast = absurd (not_proto refl)
address_of_ip6 state name.Multicast not_proto not_multicast = absurd (not_multicast refl)
address_of_ip6 state following not_proto not_multicast = refl

-- After a side that is a head by itself, other tokens than keywords are read as where its values are expected.
pub values_of_side : (most : ℕ) (state : State) (sided : Sided) (side : Side) (token : TokenKind) (text : List ℕ) (h : Head)
    → ((following : Keyword) → token ≡ kind.Keyword following → ⊥) → side_head sided side ≡ Some h
    → read_sided most state sided side (shown_token token text) ≡ read_side_values most state (Some h) (shown_token token text)
values_of_side most state sided side (kind.Keyword following) text h no_keyword is = absurd (no_keyword following refl)
values_of_side most state sided side token text h no_keyword is =
    ap (λ (q : Option Head). read_side_values most state q (shown_token token text)) is

-- ---- words

-- The change that a word makes in a mode, with any qualifiers in force.
pub mode_words : (result : Result Change FilterErrorKind) (now within : Mode) (q : Option Head) (text : List ℕ)
    → now ≡ within → IfOk result (λ made. IsModeChange within text made)
    → IfOk result (λ made. IsWordChange now q text made)
mode_words (Ok made) now within q text is h =
    subst (λ (m : Mode). IsWordChange m q text made) (sym is)
    (λ most only frames token. h most (state_in within q only frames) token)
mode_words (Err found) now within q text is h = tt

pub mode_stops : (result : Result Change FilterErrorKind) (now within : Mode) (q : Option Head) (text : List ℕ)
    → now ≡ within → IfErr result (λ found. StopsMode within text found)
    → IfErr result (λ found. StopsWordIn now q text found)
mode_stops (Ok made) now within q text is h = tt
mode_stops (Err found) now within q text is h =
    subst (λ (m : Mode). StopsWordIn m q text found) (sym is) (λ only frames. h (state_in within q only frames))

pub operand_words : (result : Result Change FilterErrorKind) (now : Mode) (values : Bool) (q : Option Head) (text : List ℕ)
    → now ≡ mode.Operand values → IfOk result (λ made. IsValueChange q text made)
    → IfOk result (λ made. IsWordChange now q text made)
operand_words (Ok made) now values q text is h =
    subst (λ (m : Mode). IsWordChange m q text made) (sym is)
    (λ most only frames token. h most (state_in (mode.Operand values) q only frames) token)
operand_words (Err found) now values q text is h = tt

pub operand_stops : (result : Result Change FilterErrorKind) (now : Mode) (values : Bool) (q : Option Head) (text : List ℕ)
    → now ≡ mode.Operand values → IfErr result (λ found. StopsValue q text found)
    → IfErr result (λ found. StopsWordIn now q text found)
operand_stops (Ok made) now values q text is h = tt
operand_stops (Err found) now values q text is h =
    subst (λ (m : Mode). StopsWordIn m q text found) (sym is) (λ only frames. h)

pub side_words : (result : Result Change FilterErrorKind) (now : Mode) (sided : Sided) (side : Side) (q h : Option Head)
    (text : List ℕ) → now ≡ mode.Side sided side → h ≡ side_head sided side
    → IfOk result (λ made. IsValueChange h text made) → IfOk result (λ made. IsWordChange now q text made)
side_words (Ok made) now sided side q h text is is_head change =
    let present : IsValueChange (side_head sided side) text made =
    subst (λ (p : Option Head). IsValueChange p text made) is_head change in
    subst (λ (m : Mode). IsWordChange m q text made) (sym is)
    (λ most only frames token. present most (state_in (mode.Side sided side) q only frames) token)
side_words (Err found) now sided side q h text is is_head change = tt

pub side_stops : (result : Result Change FilterErrorKind) (now : Mode) (sided : Sided) (side : Side) (q h : Option Head)
    (text : List ℕ) → now ≡ mode.Side sided side → h ≡ side_head sided side
    → IfErr result (λ found. StopsSide h text found) → IfErr result (λ found. StopsWordIn now q text found)
side_stops (Ok made) now sided side q h text is is_head stops = tt
side_stops (Err found) now sided side q h text is is_head stops =
    let present : StopsSide (side_head sided side) text found =
    subst (λ (p : Option Head). StopsSide p text found) is_head stops in
    subst (λ (m : Mode). StopsWordIn m q text found) (sym is) (λ only frames. present)

-- The network of a prefix length that leaves no bit of the address set.
pub length_words : (result : Result Change FilterErrorKind) (layer : AddressLayer) (side : Side) (address : IpAddr)
    (text : List ℕ) (bits : ℕ) → IsLength address text bits
    → IfOk result (λ made. (has_no_host_bits (record { address = address; bits = bits }) ≡ true)
    × (made ≡ change.Complete (completion.InForce (primitive.Address layer side (record { address = address; bits = bits })))))
    → IfOk result (λ made. IsModeChange (mode.Length layer side address) text made)
length_words (Ok made) layer side address text bits fits h = λ most state token.
    (_, ap (λ (m : Change). changed most state m token) h.1, (bits, fits, h.0, refl))
length_words (Err found) layer side address text bits fits h = tt

-- The network of a mask that leaves no bit of the address set.
pub mask_words : (result : Result Change FilterErrorKind) (layer : AddressLayer) (side : Side) (address : IpAddr)
    (text : List ℕ) (bits : ℕ) → IsMask address text bits
    → IfOk result (λ made. (has_no_host_bits (record { address = address; bits = bits }) ≡ true)
    × (made ≡ change.Complete (completion.InForce (primitive.Address layer side (record { address = address; bits = bits })))))
    → IfOk result (λ made. IsModeChange (mode.Mask layer side address) text made)
mask_words (Ok made) layer side address text bits fits h = λ most state token.
    (_, ap (λ (m : Change). changed most state m token) h.1, (bits, fits, h.0, refl))
mask_words (Err found) layer side address text bits fits h = tt
