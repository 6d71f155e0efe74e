-- What a proper kernel says of its arrays holds in each launch whose arrays have room.
use Rattle.std.proofs.Common.{ℕ, List}
use Rattle.vx_base.specs.declared.types.Elem.{Elem}
use Rattle.item_acts.specs.declared.acts.Bound.{Bound}
use Rattle.item_acts.specs.declared.acts.Range.{Range}
use Rattle.item_settings.specs.Settings.{array_of, setting_of}
use Rattle.item_settings.specs.Views.{IsRoomy}
use Rattle.ocl_ast.specs.declared.units.Param.{Param}
use Rattle.ocl_program.specs.declared.exprs.ArrayRef.{ArrayRef}
use Rattle.ocl_program.specs.declared.functions.LocalArray.{LocalArray}
use Rattle.kir.specs.Typing.{HasElem, IsWritten}
use Rattle.kir.proofs.TypingLaws.{has_type, may_be_written, place_is}
use Rattle.ocl_norm.proofs.AccessesAlong.{Accesses, Changes}

pub accesses_of : (params : List Param) (arrays : List LocalArray) (range : Range) (bounds : List Bound) (item : ℕ) → IsRoomy params arrays bounds → (array : ArrayRef) (elem : Elem)
    → HasElem params arrays array elem → Accesses (setting_of params arrays range bounds item) array elem
accesses_of params arrays range bounds item room array elem has = record {
  type = has_type params arrays bounds array elem has;
  place = λ i below.
      place_is (setting_of params arrays range bounds item).group (array_of params arrays bounds array) elem i below (has_type params arrays bounds array elem has i below) (room array);
}

pub changes_of : (params : List Param) (arrays : List LocalArray) (range : Range) (bounds : List Bound) (item : ℕ) (array : ArrayRef) → IsWritten params array
    → Changes (setting_of params arrays range bounds item) array
changes_of params arrays range bounds item array written = may_be_written params arrays bounds array written
