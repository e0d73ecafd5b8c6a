use Rattle.std.proofs.Common.{◌++◌, arith}
use Rattle.ep_ext.specs.Ipv6Chains.{final_by}
use Rattle.ep_build.proofs.HeaderListLemmas.{header_lists}
use Rattle.ep_build.proofs.PlacingLemmas.{as_destination, both_parts_at, five_parts_at, four_parts_at, space_after}
use Rattle.ep_build.proofs.PlacingLemmas.{space_first, same_len_destination}
use Rattle.ep_build.proofs.placing.place_extensions.Goals as goal

pub place_authentication-at-requires : goal.place_authentication-at-requires
place_authentication-at-requires c =
    let all = c.args.extensions.now in
    let lists = header_lists all in
    let before = lists.hop ++ lists.destination ++ lists.after ++ lists.fragments in
    space_after before lists.auth _ _ _ _
    (four_parts_at all _ _ _ _ _ _ _ _ _ _ c.place_raw-at.ensures c.place_raw-at-2.ensures c.place_routing-at.ensures
    c.place_fragment-at.ensures)
    (space_first (before ++ lists.auth) lists.final _ _ c.requires)

pub place_final-requires : goal.place_final-requires
place_final-requires c =
    let all = c.args.extensions.now in
    let lists = header_lists all in
    let before = lists.hop ++ lists.destination ++ lists.after ++ lists.fragments ++ lists.auth in
    let five = five_parts_at all _ _ _ _ _ _ _ _ _ _ _ _ c.place_raw-at.ensures c.place_raw-at-2.ensures
    c.place_routing-at.ensures c.place_fragment-at.ensures c.place_authentication-at.ensures in
    omega (
      arith,
      same_len_destination (final_by all.routing),
      space_after before lists.final _ _ _ _ five c.requires,
    )

pub returns : goal.returns
returns c =
    let all = c.args.extensions.now in
    let lists = header_lists all in
    both_parts_at (lists.hop ++ lists.destination ++ lists.after ++ lists.fragments ++ lists.auth) lists.final _ _ _ _ _ _
    (five_parts_at all _ _ _ _ _ _ _ _ _ _ _ _ c.place_raw-at.ensures c.place_raw-at-2.ensures
    c.place_routing-at.ensures c.place_fragment-at.ensures c.place_authentication-at.ensures)
    (as_destination (final_by all.routing) _ _ _ _ c.place_final.ensures)
