-- Errors of filter expressions: the first token that is not allowed after the tokens before it, and the reason.
use Rattle.std.specs.Prelude.{◌≡◌, ℕ, suc, ◌≤◌, ◌<◌, ◌⊎◌, Bool, true, false, IsTrue, List, [], ◌∷◌, ◌++◌, length, take, codes, Option, Some, None}
use Rattle.std.specs.List.{list_any}
use Rattle.std.specs.Net.Grammar.{IsIpText}
use Rattle.std.specs.declared.net.ip_addr.IpAddr.{IpAddr}
use Rattle.filter_tokens.specs.declared.filter_error.FilterError.{FilterError}
use Rattle.filter_tokens.specs.declared.filter_error.FilterErrorKind.{FilterErrorKind}
use Rattle.filter_tokens.specs.declared.filter_error.FilterErrorKind.TheVariants as kind
use Rattle.filter_tokens.specs.declared.keyword.Keyword.TheVariants as name
use Rattle.filter_tokens.specs.declared.network.Network.{Network}
use Rattle.filter_tokens.specs.declared.primitive.AddressLayer.{AddressLayer}
use Rattle.filter_tokens.specs.declared.primitive.FieldLayer.{FieldLayer}
use Rattle.filter_tokens.specs.declared.primitive.Primitive.{Primitive}
use Rattle.filter_tokens.specs.declared.primitive.Relation.{Relation}
use Rattle.filter_tokens.specs.declared.primitive.Side.{Side}
use Rattle.filter_tokens.specs.Tokens.{Token, keyword, word, not, relation, left_parenthesis, right_bracket, colon, slash, ampersand, bar, wrong, Placed, IsTokens, tokens_of, is_colon, is_digit}
use Rattle.filter_tokens.specs.Values.{IsLength, IsMask, IsNetworkText}
use Rattle.filter_language.specs.declared.head.Head.{Head}
use Rattle.filter_language.specs.declared.head.Head.TheVariants as head
use Rattle.filter_language.specs.Grammar.{IsExpression, IsField, IsFilter, IsHead, IsJoinedValues, IsOperator, IsWordValue, most_bytes, most_levels}
use Rattle.filter_language.specs.Trees.{Expr}

-- ---- the place

-- A filter with at most this number of levels begins with these tokens.
abbrev pub BeginsFilter : (levels : ℕ) → List Token → Type 0
BeginsFilter levels tokens = (others : List Token) × (tree : Option Expr) × IsFilter levels (tokens ++ others) tree

-- A token is allowed after others: a filter begins with all of them.
abbrev pub IsAllowed : (levels : ℕ) → List Token → Token → Type 0
IsAllowed levels front token = BeginsFilter levels (front ++ token ∷ [])

-- ---- expected tokens

-- An operand is awaited after these tokens, with these qualifiers in force; only values, if the last index is true.
-- Directly: at the start of the text, after `(`, `and` or `or`.
mutual
  pub data AwaitsDirectly : (levels : ℕ) → List Token → Option Head → Bool → Type 0 where
    at_start : (levels : ℕ) → AwaitsDirectly levels [] None false
    after_open : (levels : ℕ) (front : List Token) (q : Option Head) (only : Bool)
        → Awaits (suc levels) front q only → AwaitsDirectly levels (front ++ left_parenthesis ∷ []) q only
    after_operator : (levels : ℕ) (front tokens : List Token) (operator : Token) (join : Expr → Expr → Expr)
        (q after : Option Head) (e : Expr) → AwaitsDirectly levels front q false
        → IsExpression levels q tokens e after → IsOperator operator join
        → AwaitsDirectly levels (front ++ tokens ++ operator ∷ []) after false
    after_value_operator : (levels : ℕ) (front tokens : List Token) (operator : Token) (join : Expr → Expr → Expr)
        (h : Head) (e : Expr) → AwaitsDirectly levels front (Some h) true
        → IsJoinedValues levels h tokens e → IsOperator operator join
        → AwaitsDirectly levels (front ++ tokens ++ operator ∷ []) (Some h) true

  pub data Awaits : (levels : ℕ) → List Token → Option Head → Bool → Type 0 where
    directly : (levels : ℕ) (front : List Token) (q : Option Head) (only : Bool)
        → AwaitsDirectly levels front q only → Awaits levels front q only
    after_not : (levels : ℕ) (front : List Token) (q : Option Head) (only : Bool) → Awaits (suc levels) front q only
        → Awaits levels (front ++ not ∷ []) q only
    after_head : (levels : ℕ) (front tokens : List Token) (q : Option Head) (h : Head)
        → Awaits levels front q false → IsHead tokens h → Awaits levels (front ++ tokens) (Some h) true

-- A constant of a byte test is awaited.
abbrev pub AwaitsConstant : List Token → Type 0
AwaitsConstant front = IsAllowed most_levels front (word (codes "tcpflags"))

-- A byte test is not complete, or can go on.
abbrev pub IsInTest : List Token → Type 0
IsInTest front =
    IsAllowed most_levels front right_bracket ⊎ IsAllowed most_levels front bar
    ⊎ ((by : Relation) × IsAllowed most_levels front (relation by))

-- The tokens end with this one.
abbrev pub EndsWith : List Token → Token → Type 0
EndsWith front token = (before : List Token) × (front ≡ before ++ token ∷ [])

-- ---- kinds

-- A word begins with a digit or has a colon, as numbers and addresses do.
abbrev pub IsLikeValue : List ℕ → Type 0
IsLikeValue text = IsTrue (list_any is_digit (take 1 text)) ⊎ IsTrue (list_any is_colon text)

-- The kind of a word that is no value of a head.
abbrev pub value_kind : Head → FilterErrorKind
value_kind (head.Host layer side) = kind.NotAnAddress
value_kind (head.Net layer side) = kind.NotANetwork
value_kind (head.Station side) = kind.NotAStation
value_kind (head.Port ports side) = kind.NotAPort
value_kind (head.PortRange ports side) = kind.NotARange
value_kind (head.Protocol ip) = kind.NotAProtocol
value_kind head.EtherType = kind.NotAnEtherType

-- The word is an address or network, of the other IP version if it is no value of the head.
abbrev pub IsOtherFamily : Head → List ℕ → Type 0
IsOtherFamily (head.Host layer side) text = (address : IpAddr) × IsIpText text address
IsOtherFamily (head.Net layer side) text = (network : Network) × IsNetworkText text network
IsOtherFamily q text = ⊥

abbrev pub IsValueKind : Head → List ℕ → FilterErrorKind → Type 0
IsValueKind q text found =
    (IsOtherFamily q text × (found ≡ kind.WrongFamily)) ⊎ ((¬ IsOtherFamily q text) × (found ≡ value_kind q))

-- The kind of a word that is no keyword, by the qualifiers in force.
abbrev pub IsOperandKind : Option Head → List ℕ → FilterErrorKind → Type 0
IsOperandKind (Some q) text found = IsValueKind q text found
IsOperandKind None text found =
    (IsLikeValue text × (found ≡ kind.Unqualified)) ⊎ ((¬ IsLikeValue text) × (found ≡ kind.Unknown))

-- The kind of a word after the `/` or `mask` of a network: a length or mask that fits has bits set after it.
abbrev pub IsPrefixKind : (IpAddr → List ℕ → ℕ → Type 0) → FilterErrorKind → List Token → Token → List ℕ
    → FilterErrorKind → Type 0
IsPrefixKind IsPrefix otherwise front token text found =
    (before : List Token) × (address : List ℕ) × (network : Network)
    × (front ≡ before ++ word address ∷ token ∷ []) × IsNetworkText address network
    × (((bits : ℕ) × IsPrefix network.address text bits × (found ≡ kind.HostBits))
    ⊎ (((bits : ℕ) → ¬ IsPrefix network.address text bits) × (found ≡ otherwise)))

-- The kind of a word that is no keyword and is not allowed after these tokens.
abbrev pub IsWordKind : List Token → List ℕ → FilterErrorKind → Type 0
IsWordKind front text found =
    ((levels : ℕ) × (q : Option Head) × (only : Bool) × (levels ≤ most_levels) × Awaits levels front q only
    × IsOperandKind q text found)
    ⊎ IsPrefixKind IsLength kind.NotALength front slash text found
    ⊎ IsPrefixKind IsMask kind.NotAMask front (keyword name.Mask) text found
    ⊎ (AwaitsConstant front × (found ≡ kind.NotANumber))
    ⊎ (EndsWith front (keyword name.Less) × (found ≡ kind.NotANumber))
    ⊎ (EndsWith front (keyword name.Greater) × (found ≡ kind.NotANumber))
    ⊎ (EndsWith front colon × (found ≡ kind.NotASize))
    ⊎ (EndsWith front (keyword name.Vlan) × IsTrue (list_any is_digit (take 1 text)) × (found ≡ kind.NotAVlan))

-- `(` or `not` would be allowed if one more level could be open.
abbrev pub IsDeep : List Token → Token → Type 0
IsDeep front token = ((token ≡ left_parenthesis) ⊎ (token ≡ not)) × IsAllowed (suc most_levels) front token

-- Arithmetic in a byte test: an operator that is not allowed, or an operand in place of a constant.
abbrev pub IsOperand : Token → Type 0
IsOperand token =
    (token ≡ left_parenthesis) ⊎ (token ≡ keyword name.Len) ⊎ ((layer : FieldLayer) × IsField token layer)

abbrev pub IsArithmetic : List Token → Token → Type 0
IsArithmetic front token =
    (((token ≡ ampersand) ⊎ (token ≡ bar) ⊎ (token ≡ slash)) × IsInTest front)
    ⊎ (IsOperand token × AwaitsConstant front)

-- A prefix length or a mask after a host.
abbrev pub IsAfterHost : List Token → Token → Type 0
IsAfterHost front token =
    ((token ≡ slash) ⊎ (token ≡ keyword name.Mask))
    × ((levels : ℕ) × (before : List Token) × (text : List ℕ) × (layer : AddressLayer) × (side : Side) × (only : Bool)
    × (p : Primitive) × (levels ≤ most_levels) × Awaits levels before (Some (head.Host layer side)) only
    × IsWordValue (head.Host layer side) text p × (front ≡ before ++ word text ∷ []))

-- The kind of a token that is not allowed after others: misplaced, if no other row applies.
abbrev pub IsOtherKind : List Token → Token → FilterErrorKind → Type 0
IsOtherKind front token found =
    (IsDeep front token × (found ≡ kind.Deep))
    ⊎ (IsArithmetic front token × (found ≡ kind.Arithmetic))
    ⊎ (IsAfterHost front token × (found ≡ kind.NetOnly))
    ⊎ ((¬ IsDeep front token) × (¬ IsArithmetic front token) × (¬ IsAfterHost front token)
    × (found ≡ kind.Misplaced))

abbrev pub IsKind : List Token → Token → FilterErrorKind → Type 0
IsKind front (wrong own) found = found ≡ own
IsKind front (word text) found =
    IsWordKind front text found
    ⊎ (((other : FilterErrorKind) → ¬ IsWordKind front text other) × (found ≡ kind.Misplaced))
IsKind front token found = IsOtherKind front token found

-- ---- texts

-- The tokens of the text begin a filter and are none: the text ends too early.
abbrev pub EndsEarly : List ℕ → List Placed → FilterError → Type 0
EndsEarly text tokens error =
    BeginsFilter most_levels (tokens_of tokens)
    × ((tree : Option Expr) → ¬ IsFilter most_levels (tokens_of tokens) tree)
    × (error ≡ record { kind = kind.End; start = length text; end = length text })

-- One of the tokens is the first token that is not allowed after the tokens before it.
abbrev pub RefusesToken : List Placed → FilterError → Type 0
RefusesToken tokens error =
    (front others : List Placed) × (first : Placed) × (tokens ≡ front ++ first ∷ others)
    × BeginsFilter most_levels (tokens_of front) × (¬ IsAllowed most_levels (tokens_of front) first.token)
    × IsKind (tokens_of front) first.token error.kind × (error.start ≡ first.start) × (error.end ≡ first.end)

-- The text is no filter, for this reason. A text that is too long has no other error.
abbrev pub RefusesText : List ℕ → FilterError → Type 0
RefusesText text error =
    ((most_bytes < length text) × (error ≡ record { kind = kind.Long; start = most_bytes; end = length text }))
    ⊎ ((length text ≤ most_bytes)
    × ((tokens : List Placed) × IsTokens 0 text tokens × (EndsEarly text tokens error ⊎ RefusesToken tokens error)))

-- The text is this filter.
abbrev pub IsFilterText : List ℕ → Option Expr → Type 0
IsFilterText text tree =
    (length text ≤ most_bytes)
    × ((tokens : List Placed) × IsTokens 0 text tokens × IsFilter most_levels (tokens_of tokens) tree)
