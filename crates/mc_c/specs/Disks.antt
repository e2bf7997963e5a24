-- What the files of a call hold.
use Rattle.std.specs.Prelude.{List, None, Option, Some, bytes_eq, codes, if◌then◌else◌, ℕ}
use Rattle.mc_c.specs.{declared.disk.Disk.{Disk}, declared.disk.Opened.{Opened}}
use Rattle.mc_c.specs.declared.disk.Opened.TheVariants as opened

-- Of the three that are read all is known.
abbrev pub bytes_at : Disk → List ℕ → Option (List ℕ)
bytes_at disk path =
    if bytes_eq path (codes "a") then Some disk.a.now
    else if bytes_eq path (codes "b") then Some disk.b.now
    else if bytes_eq path (codes "c") then Some disk.c.now
    else None

-- What is left of an open one.
abbrev pub left_of : Opened → Option (List ℕ)
left_of (opened.Reading left) = Some left.now
left_of (opened.Writing out) = None
