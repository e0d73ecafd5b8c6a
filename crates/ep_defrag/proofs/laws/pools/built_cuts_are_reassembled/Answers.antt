use Rattle.std.proofs.Common.{[], ap, sym, ◌∙◌}
use Rattle.std.proofs.lemmas.List.Elements.{recursion_from_All}
use Rattle.ep_defrag.specs.BuiltCuts.{IsBuiltCut, IsUnder, answers_to_frames}
use Rattle.ep_defrag.specs.FrameCalls.{pool_calls}
use Rattle.ep_defrag.proofs.BuiltCutLemmas.{answers_all, come, frames_all, stays_all}
use Rattle.ep_defrag.proofs.FrameLemmas.{answers_in}
use Rattle.ep_defrag.proofs.OpenLemmas.{own_stays}
use Rattle.ep_defrag.proofs.laws.pools.built_cuts_are_reassembled.Goals as goal

pub returns-clause-alone : goal.returns-clause-alone
returns-clause-alone g c limit keep name payload cuts short built under =
    let eq = g.CustomChannelId.PartialEq.eq in
    let read_back = c.built_fragments.ensures.read_back in
    let have_bytes = c.built_fragments.ensures.bytes in
    let decided = c.frames.ensures.slices in
    let are = recursion_from_All (IsBuiltCut payload) _ built in
    let named = recursion_from_All (IsUnder eq name) _ under in
    sym (answers_all read_back have_bytes decided limit eq keep name payload [] cuts are named)
    ∙ come read_back have_bytes decided limit eq keep name payload g.met.CustomChannelId.Eq.laws short [] _ cuts tt are
    (stays_all read_back have_bytes decided limit eq keep name payload cuts)
    (frames_all read_back have_bytes decided limit eq keep name payload cuts are named)

pub returns-clause-among : goal.returns-clause-among
returns-clause-among g c limit keep name payload cuts calls short built stays same =
    come c.built_fragments.ensures.read_back c.built_fragments.ensures.bytes c.frames.ensures.slices
    limit g.CustomChannelId.PartialEq.eq keep name payload g.met.CustomChannelId.Eq.laws short [] calls cuts tt
    (recursion_from_All (IsBuiltCut payload) _ built) stays same

pub returns-clause-among_kept : goal.returns-clause-among_kept
returns-clause-among_kept g c limit keep name payload cuts calls short built own same =
    returns-clause-among g c limit keep name payload cuts calls short built
    (own_stays limit g.CustomChannelId.PartialEq.eq keep name calls own) same

pub returns-clause-read : goal.returns-clause-read
returns-clause-read g c limit keep name payload cuts reads short built stays same =
    let eq = g.CustomChannelId.PartialEq.eq in
    ap (answers_to_frames eq name (pool_calls reads)) (answers_in limit eq keep [] reads)
    ∙ returns-clause-among g c limit keep name payload cuts (pool_calls reads) short built stays same

pub returns-clause-read_kept : goal.returns-clause-read_kept
returns-clause-read_kept g c limit keep name payload cuts reads short built own same =
    returns-clause-read g c limit keep name payload cuts reads short built
    (own_stays limit g.CustomChannelId.PartialEq.eq keep name (pool_calls reads) own) same
