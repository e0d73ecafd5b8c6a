use Rattle.std.proofs.Common.{sym, subst}
use Rattle.filter_language.specs.declared.mode.Mode.{Mode}
use Rattle.filter_language.specs.declared.mode.Mode.TheVariants as mode
use Rattle.filter_language.specs.Changes.{IsApt}
use Rattle.filter_language.proofs.ChangeLemmas.{mode_stops, mode_words, operand_stops, operand_words, side_stops, side_words}
use Rattle.filter_language.proofs.parser.words.word_change.Goals as goal

pub returns-in-Operand : goal.returns-in-Operand
returns-in-Operand c =
    let r = c.value_change.result in
    let made = c.value_change.ensures in record {
      ok = operand_words r c.args.mode c.in-Operand.field-0 c.args.head c.args.word.now c.in-Operand.is made.ok;
      apt = subst (λ (m : Mode). IsApt m r) (sym c.in-Operand.is) (made.apt c.in-Operand.field-0);
      err = operand_stops r c.args.mode c.in-Operand.field-0 c.args.head c.args.word.now c.in-Operand.is made.err;
    }

pub returns-in-Side : goal.returns-in-Side
returns-in-Side c =
    let r = c.side_value_change.result in
    let made = c.side_value_change.ensures in record {
      ok =
          side_words r c.args.mode c.in-Side.sided c.in-Side.side c.args.head c.side_head.result c.args.word.now
          c.in-Side.is c.side_head.ensures made.ok;
      apt = subst (λ (m : Mode). IsApt m r) (sym c.in-Side.is) (made.apt c.in-Side.sided c.in-Side.side);
      err =
          side_stops r c.args.mode c.in-Side.sided c.in-Side.side c.args.head c.side_head.result c.args.word.now
          c.in-Side.is c.side_head.ensures made.err;
    }

pub returns-in-Length : goal.returns-in-Length
returns-in-Length c =
    let r = c.length_change.result in
    let made = c.length_change.ensures in
    let now : Mode = mode.Length c.in-Length.layer c.in-Length.side c.in-Length.address in record {
      ok = mode_words r c.args.mode now c.args.head c.args.word.now c.in-Length.is made.ok;
      apt = subst (λ (m : Mode). IsApt m r) (sym c.in-Length.is) made.apt;
      err = mode_stops r c.args.mode now c.args.head c.args.word.now c.in-Length.is made.err;
    }

pub returns-in-Mask : goal.returns-in-Mask
returns-in-Mask c =
    let r = c.mask_change.result in
    let made = c.mask_change.ensures in
    let now : Mode = mode.Mask c.in-Mask.layer c.in-Mask.side c.in-Mask.address in record {
      ok = mode_words r c.args.mode now c.args.head c.args.word.now c.in-Mask.is made.ok;
      apt = subst (λ (m : Mode). IsApt m r) (sym c.in-Mask.is) made.apt;
      err = mode_stops r c.args.mode now c.args.head c.args.word.now c.in-Mask.is made.err;
    }

pub returns-in-Vlan : goal.returns-in-Vlan
returns-in-Vlan c =
    let r = c.vlan_change.result in
    let made = c.vlan_change.ensures in
    let now : Mode = mode.Vlan in record {
      ok = mode_words r c.args.mode now c.args.head c.args.word.now c.in-Vlan.is made.ok;
      apt = subst (λ (m : Mode). IsApt m r) (sym c.in-Vlan.is) made.apt;
      err = mode_stops r c.args.mode now c.args.head c.args.word.now c.in-Vlan.is made.err;
    }

pub returns-in-PacketLength : goal.returns-in-PacketLength
returns-in-PacketLength c =
    let r = c.packet_length_change.result in
    let made = c.packet_length_change.ensures in
    let now : Mode = mode.PacketLength c.in-PacketLength.relation in record {
      ok = mode_words r c.args.mode now c.args.head c.args.word.now c.in-PacketLength.is made.ok;
      apt = subst (λ (m : Mode). IsApt m r) (sym c.in-PacketLength.is) made.apt;
      err = mode_stops r c.args.mode now c.args.head c.args.word.now c.in-PacketLength.is made.err;
    }

pub returns-in-Offset : goal.returns-in-Offset
returns-in-Offset c =
    let r = c.offset_change.result in
    let made = c.offset_change.ensures in
    let now : Mode = mode.Offset c.in-Offset.layer in record {
      ok = mode_words r c.args.mode now c.args.head c.args.word.now c.in-Offset.is made.ok;
      apt = subst (λ (m : Mode). IsApt m r) (sym c.in-Offset.is) made.apt;
      err = mode_stops r c.args.mode now c.args.head c.args.word.now c.in-Offset.is made.err;
    }

pub returns-in-Size : goal.returns-in-Size
returns-in-Size c =
    let r = c.size_change.result in
    let made = c.size_change.ensures in
    let now : Mode = mode.Size c.in-Size.layer c.in-Size.offset in record {
      ok = mode_words r c.args.mode now c.args.head c.args.word.now c.in-Size.is made.ok;
      apt = subst (λ (m : Mode). IsApt m r) (sym c.in-Size.is) made.apt;
      err = mode_stops r c.args.mode now c.args.head c.args.word.now c.in-Size.is made.err;
    }

pub returns-in-Group : goal.returns-in-Group
returns-in-Group c =
    let r = c.group_word_change.result in
    let made = c.group_word_change.ensures in
    let now : Mode = mode.Group c.in-Group.comparison in record {
      ok = mode_words r c.args.mode now c.args.head c.args.word.now c.in-Group.is made.ok;
      apt = subst (λ (m : Mode). IsApt m r) (sym c.in-Group.is) made.apt;
      err = mode_stops r c.args.mode now c.args.head c.args.word.now c.in-Group.is made.err;
    }

pub returns-in-GroupItem : goal.returns-in-GroupItem
returns-in-GroupItem c =
    let r = c.item_change.result in
    let made = c.item_change.ensures in
    let now : Mode = mode.GroupItem c.in-GroupItem.comparison c.in-GroupItem.bits in record {
      ok = mode_words r c.args.mode now c.args.head c.args.word.now c.in-GroupItem.is made.ok;
      apt = subst (λ (m : Mode). IsApt m r) (sym c.in-GroupItem.is) made.apt;
      err = mode_stops r c.args.mode now c.args.head c.args.word.now c.in-GroupItem.is made.err;
    }
