-- Lemmas that a refusal table which accepts bytes rejects a prefix of them only for missing bytes.
use Rattle.std.proofs.Common.{◌≡◌, ℕ, ◌+◌, ◌≤◌, if◌then◌else◌, Bool, true, false, List, [], ◌∷◌, ◌++◌, get_or, length, Option, Some, None, refl, sym, ap, subst, ◌∙◌, arith}
use Rattle.std.specs.Prelude.{nat_lt}
use Rattle.std.proofs.lemmas.Grind.{common_steps}
use Rattle.std.proofs.lemmas.List.{append-nil, append_assoc, get_or_append_left}
use Rattle.std.proofs.lemmas.Option.{none-some}
use Rattle.ep_base.specs.Bytes.{word_at}
use Rattle.ep_base.specs.Readings.{len_error}
use Rattle.ep_base.specs.Missing.{IsTruncationError, IsTruncationLenError}
use Rattle.ep_base.specs.Tables.{IsDecided, Refuses, first_row, rows_as}
use Rattle.ep_base.specs.declared.err.layer.Layer.{Layer}
use Rattle.ep_base.specs.declared.err.len_error.LenError.{LenError}
use Rattle.ep_base.specs.declared.len_source.LenSource.{LenSource}
use Rattle.ep_base.specs.declared.len_source.LenSource.TheVariants as source

-- ---- tables of a prefix and of the whole bytes

-- Row by row: if no row of the whole bytes' table holds up to here, the first row of the prefix's table that holds has
-- an error with property `Such`.
abbrev pub BesideRows : {E : Type 0} → (E → Type 0) → List (Bool × E) → List (Bool × E) → Type 0
BesideRows Such [] complete = Unit {0}
BesideRows Such (row ∷ rows) [] = ⊥
BesideRows Such (row ∷ rows) (other ∷ others) =
    other.0 ≡ false → (row.0 ≡ true → Such row.1) × (row.0 ≡ false → BesideRows Such rows others)

-- If the whole bytes are accepted, the error of the prefix has the property.
pub refused_beside : {E : Type 0} (Such : E → Type 0) (rows complete : List (Bool × E)) → BesideRows Such rows complete
    → first_row complete ≡ None → (error : E) → first_row rows ≡ Some error → Such error
refused_beside Such [] complete beside none error refused = absurd (none-some error refused)
refused_beside Such (row ∷ rows) [] beside none error refused = absurd beside
refused_beside Such (row ∷ rows) ((true, other) ∷ others) beside none error refused = absurd
    (none-some other (sym none))
refused_beside Such ((true, row_error) ∷ rows) ((false, other) ∷ others) beside none error refused =
    let same : row_error ≡ error = cc in subst Such same ((beside refl).0 refl)
refused_beside Such ((false, row_error) ∷ rows) ((false, other) ∷ others) beside none error refused =
    refused_beside Such rows others ((beside refl).1 refl) none error refused

-- The relation holds between conditional tables if it holds between both branches.
pub either_beside : {E : Type 0} (Such : E → Type 0) (condition : Bool)
    (rows others complete complete_others : List (Bool × E))
    → BesideRows Such rows complete → BesideRows Such others complete_others
    → BesideRows Such (if condition then rows else others) (if condition then complete else complete_others)
either_beside Such true rows others complete complete_others beside also = beside
either_beside Such false rows others complete complete_others beside also = also

-- The relation holds between tables whose errors are converted by `name`.
pub named_beside : {E F : Type 0} (Such : F → Type 0) (name : E → F) (rows complete : List (Bool × E))
    → BesideRows (λ error. Such (name error)) rows complete → BesideRows Such (rows_as name rows) (rows_as name complete)
named_beside Such name [] complete beside = tt
named_beside Such name (row ∷ rows) [] beside = beside
named_beside Such name (row ∷ rows) (other ∷ others) beside =
    λ long. ((beside long).0, λ enough. named_beside Such name rows others ((beside long).1 enough))

-- The relation also holds for any property that the first one implies.
pub mapped_beside : {E : Type 0} (Such Other : E → Type 0) → ((error : E) → Such error → Other error)
    → (rows complete : List (Bool × E)) → BesideRows Such rows complete → BesideRows Other rows complete
mapped_beside Such Other also [] complete beside = tt
mapped_beside Such Other also (row ∷ rows) [] beside = beside
mapped_beside Such Other also (row ∷ rows) (other ∷ others) beside =
    λ long. (
      λ holds. also row.1 ((beside long).0 holds),
      λ present. mapped_beside Such Other also rows others ((beside long).1 present),
    )

-- A table does not reject bytes that are a value.
pub holds_unrefused : {V E : Type 0} {Is : V → Type 0} (rows : List (Bool × E)) → IsDecided Is (Refuses rows)
    → (value : V) → Is value → first_row rows ≡ None
holds_unrefused rows decided value is = unrefused (first_row rows)
    (λ error refused. decided.not_both value error is refused)
  where
    unrefused : {E : Type 0} (answer : Option E) → ((error : E) → answer ≡ Some error → ⊥) → answer ≡ None
    unrefused None never = refl
    unrefused (Some error) never = absurd (never error refl)

-- ---- rows

-- A row for too few bytes, which does not reject the whole bytes, rejects a prefix with a length error for truncated
-- bytes.
pub cut_row : {E : Type 0} (named : LenError → E) (limit : LenError → LenSource) (prefix back : List ℕ)
    (required needed : ℕ) (end : LenSource) (place : Layer)
    → end ≡ limit (len_error required (length prefix) end place) → required ≡ needed
    → nat_lt (length (prefix ++ back)) needed ≡ false → nat_lt (length prefix) required ≡ true
    → IsTruncationError named limit (length prefix) (length (prefix ++ back))
    (named (len_error required (length prefix) end place))
cut_row named limit prefix back required needed end place by same enough short = record {
  missing = len_error required (length prefix) end place;
  is = refl;
  short = record {
    available = omega arith;
    needed = grind (arith, common_steps);
    within = grind (arith, common_steps);
  };
  source = by;
}

-- If the row for too few bytes does not hold, there are enough bytes.
pub enough : (n least : ℕ) → nat_lt n least ≡ false → least ≤ n
enough n least none = grind (arith, common_steps)

-- The first row of a table checks for too few bytes; later rows can assume that they are present.
pub cut_first : {E Rest : Type 0} (named : LenError → E) (limit : LenError → LenSource) (prefix back : List ℕ)
    (required : ℕ) (place : Layer) → source.Slice ≡ limit (len_error required (length prefix) source.Slice place)
    → (required ≤ length prefix → Rest) → nat_lt (length (prefix ++ back)) required ≡ false
    → (nat_lt (length prefix) required ≡ true → IsTruncationError named limit (length prefix) (length (prefix ++ back))
    (named (len_error required (length prefix) source.Slice place)))
    × (nat_lt (length prefix) required ≡ false → Rest)
cut_first named limit prefix back required place by rest long = (
  cut_row named limit prefix back required required source.Slice place by refl long,
  λ present. rest (enough (length prefix) required present),
)

-- A later row for too few bytes that requires the same length for the prefix and for the whole bytes.
pub cut_then : {E Rest : Type 0} (named : LenError → E) (limit : LenError → LenSource) (prefix back : List ℕ)
    (required needed : ℕ) (place : Layer) → source.Slice ≡ limit (len_error required (length prefix) source.Slice place)
    → required ≡ needed → Rest → nat_lt (length (prefix ++ back)) needed ≡ false
    → (nat_lt (length prefix) required ≡ true → IsTruncationError named limit (length prefix) (length (prefix ++ back))
    (named (len_error required (length prefix) source.Slice place)))
    × (nat_lt (length prefix) required ≡ false → Rest)
cut_then named limit prefix back required needed place by same rest long =
    (cut_row named limit prefix back required needed source.Slice place by same long, λ present. rest)

-- A row whose condition is the same for the prefix and for the whole bytes does not reject the prefix.
pub same_then : {Error Rest : Type 0} {here complete : Bool} → here ≡ complete → Rest → complete ≡ false
    → (here ≡ true → Error) × (here ≡ false → Rest)
same_then same rest none =
    (λ holds. absurd (let wrong : true ≡ false = sym holds ∙ same ∙ none in cc), λ other. rest)

-- ---- bytes of a prefix

-- A byte of a prefix is the byte of the whole at the same position.
pub byte_beside : (prefix back : List ℕ) (i : ℕ) → i + 1 ≤ length prefix
    → get_or prefix i 0 ≡ get_or (prefix ++ back) i 0
byte_beside prefix back i within = sym (get_or_append_left prefix back 0 i (omega (arith, within)))

-- A 16 bit word of a prefix is the word of the whole at the same position.
pub word_beside : (prefix back : List ℕ) (i : ℕ) → i + 2 ≤ length prefix → word_at prefix i ≡ word_at (prefix ++ back) i
word_beside prefix back i within =
    let first = byte_beside prefix back i (omega (arith, within)) in
    let second = byte_beside prefix back (i + 1) (omega (arith, within)) in
    omega (arith, first, second)

-- ---- appended bytes

-- Bytes appended to the whole are appended to the rest after a prefix.
pub longer_rest : (bytes prefix rest more : List ℕ) → bytes ≡ prefix ++ rest → bytes ++ more ≡ prefix ++ (rest ++ more)
longer_rest bytes prefix rest more parts = ap (λ (l : List ℕ). l ++ more) parts ∙ append_assoc prefix rest more

-- Bytes appended to a payload without trailing bytes belong to the payload.
pub longer_payload : (bytes header payload left more : List ℕ) → bytes ≡ (header ++ payload) ++ left → left ≡ []
    → bytes ++ more ≡ (header ++ (payload ++ more)) ++ []
longer_payload bytes header payload left more parts nothing =
    let complete : bytes ≡ header ++ payload =
    parts ∙ ap (λ (l : List ℕ). (header ++ payload) ++ l) nothing ∙ append-nil (header ++ payload) in
    longer_rest bytes header payload more complete ∙ sym (append-nil (header ++ (payload ++ more)))

-- ---- converted and shifted errors

-- A converted error for truncated bytes is still an error for truncated bytes.
pub renamed_cut : {E F : Type 0} (name : E → F) (named : LenError → E) (limit : LenError → LenSource) (cut complete : ℕ)
    (error : E) (other : F) → IsTruncationError named limit cut complete error → other ≡ name error
    → IsTruncationError (λ (missing : LenError). name (named missing)) limit cut complete other
renamed_cut name named limit cut complete error other is same = record {
  missing = is.missing;
  is = same ∙ ap name is.is;
  short = is.short;
  source = is.source;
}

-- A length error for truncated bytes can be moved by an offset and given another length source.
pub further_short : (offset cut complete : ℕ) (limit : LenSource) (missing : LenError) → IsTruncationLenError cut complete missing
    → IsTruncationLenError (offset + cut) (offset + complete)
    (record missing { layer_start_offset = missing.layer_start_offset + offset; len_source = limit })
further_short offset cut complete limit missing short = record {
  available = omega (arith, short.available);
  needed = short.needed;
  within = omega (arith, short.within);
}
