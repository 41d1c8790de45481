-- Which fault of a trait a fault of the disk becomes.
use Rattle.rocks_outside.specs.declared.fault.DeviceError as device
use Rattle.rocks_outside.specs.declared.fault.DeviceError.TheVariants as device_errors
use Rattle.rocks_outside.specs.declared.fault.ShelfError as shelf
use Rattle.rocks_outside.specs.declared.fault.ShelfError.TheVariants as shelf_errors
use Rattle.std.specs.IoError.{error_kind}
use Rattle.std.specs.declared.io.Error.{Error}
use Rattle.std.specs.declared.io.ErrorKind.{ErrorKind}
use Rattle.std.specs.declared.io.ErrorKind.TheVariants.{NotADirectory, NotFound, OutOfMemory}
use Rattle.disk_paths.specs.declared.fault.DiskError.{DiskError}
use Rattle.disk_paths.specs.declared.fault.DiskError.TheVariants.{Failed, NoMemory}

abbrev pub device_error : DiskError → device.DeviceError
device_error Failed = device_errors.Failed
device_error NoMemory = device_errors.NoMemory

abbrev pub shelf_error : DiskError → shelf.ShelfError
shelf_error Failed = shelf_errors.Failed
shelf_error NoMemory = shelf_errors.NoMemory

-- what an error of the system means: memory ran out, or the disk failed
abbrev pub by_kind : ErrorKind → DiskError
by_kind OutOfMemory = NoMemory
by_kind _ = Failed

abbrev pub disk_error : Error → DiskError
disk_error error = by_kind (error_kind error)

-- nothing stands at a path
abbrev pub IsAbsence : ErrorKind → Type 0
IsAbsence NotFound = Unit
IsAbsence NotADirectory = Unit
IsAbsence _ = ⊥
