-- The content of blocks, as it is parsed.
use Rattle.std.proofs.Common.{◌≡◌, ℕ, ◌<◌, ◌≤◌, not, nat_lt, List, [], ◌∷◌, ◌++◌}
use Rattle.std.proofs.Common.{None, length, drop, refl, sym, ap, ◌∙◌, arith}
use Rattle.std.proofs.lemmas.Bool.{lt-ltb, not_from_true}
use Rattle.ep_base.specs.Tables.{first_row}
use Rattle.capture_reader.specs.Blocks.{interface_of, interface_read, most_interfaces, options_rows}
use Rattle.capture_reader.specs.BlockContents.{HasContent, section_of}
use Rattle.capture_reader.specs.declared.block.BlockKind.TheVariants.{InterfaceDescription}
use Rattle.capture_reader.specs.declared.block.BlockKind.TheVariants.{Other}
use Rattle.capture_reader.specs.declared.block.Content.TheVariants as content
use Rattle.capture_reader.specs.declared.byte_order.ByteOrder.{ByteOrder}
use Rattle.capture_reader.specs.declared.interface.Interface.{Interface}
use Rattle.capture_reader.proofs.BodyLemmas.{row_pass}

pub interface_content : (interfaces : List Interface) (order : ByteOrder) (len : ℕ) (body : List ℕ) (about : Interface)
    → 8 ≤ length body → length interfaces < most_interfaces → first_row (options_rows order (drop 8 body)) ≡ None
    → about ≡ interface_of order (interface_read order body)
    → HasContent interfaces order InterfaceDescription len body (content.Interface about)
interface_content interfaces order len body about long space none is =
    let plain = interface_read order body in
    record {
      none = row_pass (not (nat_lt (length interfaces) most_interfaces)) _ _ (not_from_true
          (nat_lt (length interfaces) most_interfaces) (lt-ltb (length interfaces) most_interfaces space))
          ∙ none;
      after = λ before number same_order.
          let same : interface_of before plain ≡ about = ap (λ o. interface_of o plain) (sym same_order) ∙ sym is in
          λ i. section_of (sym same_order i) (interfaces ++ same i ∷ []);
      shown = λ number. refl;
      fits = omega arith;
    }

pub other_content : (interfaces : List Interface) (order : ByteOrder) (len : ℕ) (body : List ℕ)
    → HasContent interfaces order Other len body content.Other
other_content interfaces order len body = record {
  none = refl;
  after = λ before number same_order. ap (λ o. section_of o interfaces) (sym same_order);
  shown = λ number. refl;
  fits = tt;
}
