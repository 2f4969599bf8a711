-- The numbers that faults of a line are told by, the values that they bring, and the layers that found them.
use Rattle.std.specs.Prelude.{ℕ, None, Option}
use Rattle.history.specs.declared.fault.ShopFault.{ShopFault}
use Rattle.history.specs.declared.fault.ShopFault.TheVariants.{Book, Index, Hold, Stale}
use Rattle.history.specs.Faults.{number as shop_number, values as shop_values}
use Rattle.lines.specs.declared.fault.LineFault.{LineFault}
use Rattle.lines.specs.declared.fault.LineFault.TheVariants.{OutputTooShort, NoForm, Shop}
use Rattle.lines.specs.declared.fault.Layer.{Layer}
use Rattle.lines.specs.declared.fault.Layer.TheVariants.{Line as AtLine, Index as AtIndex, Shop as AtShop}

abbrev pub number : LineFault → ℕ
number OutputTooShort = 17
number NoForm = 18
number (Shop e) = shop_number e

-- those of the shop's fault, unchanged
abbrev pub values : LineFault → Option (ℕ × ℕ)
values OutputTooShort = None
values NoForm = None
values (Shop e) = shop_values e

-- a shop finds its own faults but those of its index
abbrev pub shop_layer : ShopFault → Layer
shop_layer (Book e) = AtShop
shop_layer (Index e) = AtIndex
shop_layer (Hold e) = AtShop
shop_layer Stale = AtShop

abbrev pub layer : LineFault → Layer
layer OutputTooShort = AtLine
layer NoForm = AtLine
layer (Shop e) = shop_layer e
