-- The description of an interface, as it is parsed.
use Rattle.std.proofs.Common.{◌≡◌, ℕ, ℤ, ◌-◌, Bool, List, Option, take, drop, length, length-drop, sym, ap, ◌∙◌, arith}
use Rattle.std.proofs.lemmas.List.{take_all}
use Rattle.capture_reader.specs.Numbers.{word16_at, word32_at}
use Rattle.capture_reader.specs.Blocks.{interface_of, interface_read, option_value_rows, options_rows}
use Rattle.capture_reader.specs.Options.{ends_options, offset_or_zero, options_end, options_of, per_second_of}
use Rattle.capture_reader.specs.Options.{resolution_or_default, value_of}
use Rattle.capture_reader.specs.declared.byte_order.ByteOrder.{ByteOrder}
use Rattle.capture_reader.specs.declared.interface.Interface.{Interface}

-- The options in the body of a block have these values.
pub record HasValues (order : ByteOrder) (body options : List ℕ) (ended : Bool)
    (resolution offset : Option (List ℕ)) : Type 0 where
  pub options_are : options ≡ drop 8 body
  pub resolution_is : resolution ≡ value_of 9 (options_of order options)
  pub offset_is : offset ≡ value_of 14 (options_of order options)
  pub ended_is : ended ≡ ends_options order (options_end order options)

-- The values are read from the options after the first eight bytes.
pub values_of_options : (order : ByteOrder) (body : List ℕ) (ended : Bool) (resolution offset : Option (List ℕ))
    → let options = take (length body - 8) (drop 8 body) in
    resolution ≡ value_of 9 (options_of order options) → offset ≡ value_of 14 (options_of order options)
    → ended ≡ ends_options order (options_end order options) → HasValues order body options ended resolution offset
values_of_options order body ended resolution offset resolution_is offset_is ended_is = record {
  options_are = take_all _ (drop 8 body) (omega (arith, length-drop 8 body));
  resolution_is = resolution_is;
  offset_is = offset_is;
  ended_is = ended_is;
}

-- The refusal table of the options depends on these values only.
pub rows_of_values : (order : ByteOrder) (body options : List ℕ) (ended : Bool) (resolution offset : Option (List ℕ))
    → HasValues order body options ended resolution offset
    → options_rows order (drop 8 body) ≡ option_value_rows ended resolution offset
rows_of_values order body options ended resolution offset values =
    let rows : options_rows order options ≡ option_value_rows ended resolution offset =
    λ i. option_value_rows (sym values.ended_is i) (sym values.resolution_is i) (sym values.offset_is i) in
    ap (options_rows order) (sym values.options_are) ∙ rows

-- The block describes the interface that is parsed.
pub interface_of_values : (order : ByteOrder) (body options : List ℕ) (ended : Bool)
    (resolution offset : Option (List ℕ)) (about : Interface) → HasValues order body options ended resolution offset
    → about.link_type ≡ word16_at order body 0 → about.snap_len ≡ word32_at order body 4
    → about.per_second ≡ per_second_of (resolution_or_default resolution) → about.offset ≡ offset_or_zero order offset
    → about ≡ interface_of order (interface_read order body)
interface_of_values order body options ended resolution offset about values link snap per added =
    let Units : List ℕ → ℕ = λ s. per_second_of (resolution_or_default (value_of 9 (options_of order s))) in
    let Added : List ℕ → ℤ = λ s. offset_or_zero order (value_of 14 (options_of order s)) in
    let Second : Option (List ℕ) → ℕ = λ value. per_second_of (resolution_or_default value) in
    let units : about.per_second ≡ Units (drop 8 body) =
    per ∙ ap Second values.resolution_is ∙ ap Units values.options_are in
    let more : about.offset ≡ Added (drop 8 body) =
    added ∙ ap (offset_or_zero order) values.offset_is ∙ ap Added values.options_are in
    λ i. record { link_type = link i; snap_len = snap i; per_second = units i; offset = more i }
