-- What the code's values mean.
use Rattle.std.specs.Prelude.{map, vec_items}
use Rattle.sheets.specs.Sheets.{model}
use Rattle.texts.specs.Spans.{stretch}
use Rattle.control.specs.Grounds.{Contents}
use Rattle.control.specs.declared.file.ControlFile.{ControlFile}

abbrev pub view : ControlFile → Contents
view c = record { names = map (stretch (vec_items c.text)) (vec_items c.names); sheet = model c.catalogue.sheet }
