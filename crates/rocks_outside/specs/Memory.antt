-- What contracts see of the objects in memory.
use Rattle.std.specs.Prelude.{List, [], length, Some}
use Rattle.std.specs.FinMap.{empty}
use Rattle.rocks_text.specs.Files.{Files}
use Rattle.rocks_outside.specs.Device.{DeviceState}
use Rattle.rocks_outside.specs.Held.{files_of}
use Rattle.rocks_outside.specs.Shelf.{ShelfState}
use Rattle.rocks_outside.specs.declared.memory_device.MemoryDevice.{MemoryDevice}
use Rattle.rocks_outside.specs.declared.memory_shelf.MemoryShelf.{MemoryShelf}

-- a device in memory, which tells everything
abbrev pub device_state : MemoryDevice → DeviceState
device_state device = record {
  files = Some (files_of device.files);
  said = Some device.said.items;
  clock = length device.calls.items;
  looks = device.looks;
  faults = 0;
}

-- a device that nothing was done with
abbrev pub new_device : DeviceState
new_device = record { files = Some empty; said = Some []; clock = 0; looks = 0; faults = 0 }

-- the files of each server of a shelf in memory
abbrev pub shelf_holds : MemoryShelf → List Files
shelf_holds shelf = shelf.servers.items

-- a shelf in memory, which tells everything and never fails
abbrev pub shelf_state : MemoryShelf → ShelfState
shelf_state shelf = record { holds = Some (shelf_holds shelf); servers = length (shelf_holds shelf); faults = 0 }
