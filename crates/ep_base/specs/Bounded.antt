-- Numbers of header fields that are narrower than their integer type.
use Rattle.std.specs.Prelude.{◌≡◌, ℕ, ◌<◌, ◌≤◌, Result, MatchResult}
use Rattle.ep_base.specs.declared.err.value_too_big.ValueTooBigError.{ValueTooBigError}
use Rattle.ep_base.specs.declared.err.value_type.ValueType.{ValueType}

-- The result of creating such a number: the number if it is at most max, and otherwise the error with the number, the
-- maximum and the kind of field.
abbrev pub TriesNumber : ℕ → ValueType → ℕ → Result ℕ (ValueTooBigError ℕ) → Type 0
TriesNumber max value_type value answer =
    MatchResult answer
    (λ number. (value ≤ max) × (number ≡ value))
    (λ error. (max < value) × (error ≡ record { actual = value; max_allowed = max; value_type = value_type }))
