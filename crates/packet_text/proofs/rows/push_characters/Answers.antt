use Rattle.std.proofs.Common.{◌≡◌, ◌+◌, length, set, subst, take, arith}
use Rattle.line_io.proofs.ResultLemmas.{OnOk-appended}
use Rattle.packet_text.proofs.RowLemmas.{AreCharacters, AreCharacters-all, AreCharacters-more}
use Rattle.packet_text.proofs.rows.push_characters.Goals as goal

pub loop-at-preserved : goal.loop-at-preserved
loop-at-preserved c =
    AreCharacters-more c.args.row.now c.loop-at.text c.loop-at.at c.character_of.result c.loop-at.invariant
    c.loop-at-test.true (omega (arith, c.requires)) c.character_of.ensures

pub returns : goal.returns
returns c =
    let row = c.args.row.now in
    let all : c.loop-at.at ≡ length row = omega arith in
    OnOk-appended c.extend_from_slice.result c.args.output.now.items c.extend_from_slice.new.self.items
    (take (length row + 4) (set c.loop-at.text (length row + 3) 124)) _ c.extend_from_slice.ensures.items
    (AreCharacters-all row c.loop-at.text (subst (λ n. AreCharacters row n c.loop-at.text) all c.loop-at.invariant)
    (omega (arith, c.requires)))
