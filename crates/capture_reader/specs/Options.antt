-- Options of pcapng blocks (draft-ietf-opsawg-pcapng, 3.5), and the options of an interface that are read.
use Rattle.std.specs.Prelude.{◌≡◌, ℕ, zero, suc, ◌+◌, ◌-◌, ◌%◌, ◌^◌, ◌<◌, ◌==◌, ◌&&◌, ◌||◌, Bool, true, not, nat_le}
use Rattle.std.specs.Prelude.{nat_lt}
use Rattle.std.specs.Prelude.{if◌then◌else◌, List, [], ◌∷◌, ◌++◌, Option, Some, None, length, drop, slice_index}
use Rattle.std.specs.Prelude.{slice_range}
use Rattle.std.specs.Prelude.{ℤ, pos}
use Rattle.std.specs.Int.{w64, cast_signed}
use Rattle.capture_reader.specs.Numbers.{word16, word16_at, word64_of}
use Rattle.capture_reader.specs.declared.byte_order.ByteOrder.{ByteOrder}

-- the number of bytes that pad n bytes to a multiple of four
abbrev pub padding_of : ℕ → ℕ
padding_of n = (4 - n % 4) % 4

-- ---- options

-- an option: its code, its value, and the padding
pub record PlainOption : Type 0 where
  pub code : ℕ
  pub value : List ℕ
  pub padding : List ℕ

-- The code and the length fit in two bytes, and the code is not that of the end-of-options marker (0).
pub record FitsOption (option : PlainOption) : Type 0 where
  pub code : option.code < 2 ^ 16
  pub some : 0 < option.code
  pub value : length option.value < 2 ^ 16
  pub padding : length option.padding ≡ padding_of (length option.value)

-- the wire bytes of an option
abbrev pub option_bytes : ByteOrder → PlainOption → List ℕ
option_bytes order option =
    word16 order option.code ++ word16 order (length option.value) ++ option.value ++ option.padding

-- Each option of the list is valid.
abbrev pub AreOptions : List PlainOption → Type 0
AreOptions [] = Unit {0}
AreOptions (option ∷ options) = FitsOption option × AreOptions options

-- the wire bytes of options
abbrev pub options_bytes : ByteOrder → List PlainOption → List ℕ
options_bytes order [] = []
options_bytes order (option ∷ options) = option_bytes order option ++ options_bytes order options

-- True if the options end here: no bytes follow, or the end-of-options marker.
abbrev pub ends_options : ByteOrder → List ℕ → Bool
ends_options order bytes = (length bytes == 0) || (nat_le 2 (length bytes) && (word16_at order bytes 0 == 0))

-- the length of the option at the start of the bytes, with its header and padding
abbrev pub option_len : ByteOrder → List ℕ → ℕ
option_len order bytes = 4 + word16_at order bytes 2 + padding_of (word16_at order bytes 2)

-- True if the bytes begin with a complete option.
abbrev pub has_option : ByteOrder → List ℕ → Bool
has_option order bytes =
    nat_le 4 (length bytes) && (not (word16_at order bytes 0 == 0) && nat_le (option_len order bytes) (length bytes))

-- the option at the start of the bytes
abbrev pub option_of : ByteOrder → List ℕ → PlainOption
option_of order bytes = record {
  code = word16_at order bytes 0;
  value = slice_range bytes 4 (4 + word16_at order bytes 2);
  padding = slice_range bytes (4 + word16_at order bytes 2) (option_len order bytes);
}

-- the complete options at the start of the bytes, at most `most` of them, and the bytes after these
abbrev pub options_in : ℕ → ByteOrder → List ℕ → List PlainOption
options_in zero order bytes = []
options_in (suc most) order bytes =
    if has_option order bytes
    then option_of order bytes ∷ options_in most order (drop (option_len order bytes) bytes)
    else []

abbrev pub after_options : ℕ → ByteOrder → List ℕ → List ℕ
after_options zero order bytes = bytes
after_options (suc most) order bytes =
    if has_option order bytes then after_options most order (drop (option_len order bytes) bytes) else bytes

-- all complete options at the start of the bytes, and the bytes after them
abbrev pub options_of : ByteOrder → List ℕ → List PlainOption
options_of order bytes = options_in (length bytes) order bytes

abbrev pub options_end : ByteOrder → List ℕ → List ℕ
options_end order bytes = after_options (length bytes) order bytes

-- ---- options of an interface

-- the value of the first option with this code
abbrev pub value_of : ℕ → List PlainOption → Option (List ℕ)
value_of code [] = None
value_of code (option ∷ options) = if option.code == code then Some option.value else value_of code options

-- the first value if there is one, otherwise the second
abbrev pub first_value : Option (List ℕ) → Option (List ℕ) → Option (List ℕ)
first_value None value = value
first_value (Some found) value = Some found

-- True if there is no value, or one of this length.
abbrev pub has_len : ℕ → Option (List ℕ) → Bool
has_len len None = true
has_len len (Some value) = length value == len

-- the length of a value, 0 without one
abbrev pub value_len : Option (List ℕ) → ℕ
value_len None = 0
value_len (Some value) = length value

-- the timestamp resolution (if_tsresol, option 9): 6, for microseconds, without the option
abbrev pub resolution_or_default : Option (List ℕ) → ℕ
resolution_or_default None = 6
resolution_or_default (Some value) = slice_index value 0

-- the units per second: a power of ten, or from 128 on a power of two
abbrev pub per_second_of : ℕ → ℕ
per_second_of resolution = if nat_lt resolution 128 then 10 ^ resolution else 2 ^ (resolution - 128)

-- True if the units per second fit in 64 bits.
abbrev pub knows_resolution : ℕ → Bool
knows_resolution resolution = if nat_lt resolution 128 then nat_lt resolution 20 else nat_lt resolution 192

-- the seconds that are added to timestamps (if_tsoffset, option 14): 0 without the option
abbrev pub offset_or_zero : ByteOrder → Option (List ℕ) → ℤ
offset_or_zero order None = pos 0
offset_or_zero order (Some value) = cast_signed w64 (word64_of order value)
