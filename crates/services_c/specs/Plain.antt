-- A service of plain numbers, with no name.
use Rattle.std.specs.Prelude.{ℕ, []}
use Rattle.texts.specs.Texts.{held}
use Rattle.services.specs.declared.Service.{Service}
use Rattle.texts.specs.Sizes.{id_bytes}

abbrev pub service_with : ℕ → ℕ → ℕ → ℕ → ℕ → Service
service_with weekdays start end added removed =
    record { name = held id_bytes []; weekdays = weekdays; start = start; end = end; added = added; removed = removed }
