-- An accepted launch is located.
use Rattle.std.proofs.Common.{◌≡◌, ℕ, inl, inr, arith}
use Rattle.std.proofs.lemmas.Nat.{mod_below, div-add-mod'}
use Rattle.vx_layout.specs.Addresses.{frame_of}
use Rattle.vx_layout.specs.Launching.{Plan, Accepted, map_of, group_size}
use Rattle.vx_layout.specs.Located.{Located}
use Rattle.vx_layout.proofs.Maps as maps
use Rattle.vx_layout.proofs.Blocks as blocks
use Rattle.vx_layout.proofs.Lanes as lanes

pub located : (p : Plan) → Accepted p → Located p
located p ok = record {
  is_map = maps.is_map p ok;
  has_place = maps.has_place p;
  has_address = maps.has_address p;
  is_named = maps.is_named p ok;
  is_run = maps.is_run p ok;
  below_arrays = λ group a below. maps.at_nothing (map_of p) group a (maps.is_map p ok) (omega arith) (inl below);
  above_arrays = λ group a from below. maps.at_nothing (map_of p) group a (maps.is_map p ok) below (inr from);
  scalar_words = blocks.scalar_words p ok;
  array_words = blocks.array_words p ok;
  declared_word = blocks.declared_word_of p ok;
  block_small = blocks.block_small p ok;
  block_word = λ group warp lane k below. lanes.block_word p ok group (frame_of warp p.lanes lane p.slots) p.slots k below;
  own_word = lanes.own_word p ok;
  at_array = lanes.at_array (map_of p);
  of_array = lanes.of_array (map_of p);
  frames_apart = λ warp lane warp' lane' a _ _ differ from below. lanes.frames_apart p warp lane warp' lane' a differ from below;
  block_in_memory = lanes.block_in_memory p.shared;
  own_in_memory = lanes.own_in_memory p ok;
  array_in_memory = lanes.array_in_memory p ok;
  warps_in_core = lanes.warps_most (group_size p.range) p.lanes p.warps ok.some_lanes ok.room;
  some_warp = lanes.some_warp (group_size p.range) p.lanes ok.some_lanes (lanes.some_items p ok);
  warp_has_items = λ warp below. lanes.warp_has_items (group_size p.range) p.lanes warp ok.some_lanes below;
  item_warp = λ local below. lanes.item_warp (group_size p.range) p.lanes local ok.some_lanes below;
  item_lane = λ local below. (mod_below local p.lanes ok.some_lanes, div-add-mod' local p.lanes);
}
