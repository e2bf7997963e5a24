-- The worked layout: 4 and 3 sectors of 256 bytes, in units of 8.
use Rattle.mc_flash.specs.Geometry.{Geometry}

abbrev pub worked : Geometry
worked = record { sector = 256; unit = 8; max_sectors = 4; chunk = 128; primary = 4; secondary = 3 }
