-- The numbers of the reasons and of the layers of a refusal. Assumes nothing.
use Rattle.std.specs.Prelude.{ℕ}
use Rattle.faults.specs.declared.fault.Reason.{Reason}
use Rattle.faults.specs.declared.fault.Reason.TheVariants.{FileLength, Magic, Identification, FileHeader, HeaderCount, HeadersPastEnd, Interpreter, LoadCount, SegmentSize, SegmentAlignment, SegmentFlags, SegmentEnd, SegmentOrder, EntryPoint, DynamicExtent, DynamicEnd, DynamicTag, RelocationTable, RelocationType, RelocationTarget, BiasValue, BiasEnd, SlotNumber, SlotTaken, OutsideWindow, PageMapped, NoRoom, SlotEmpty, AccessLength, OddFetch, AddressUnmapped, RightMissing, RightsNumber, PageUnmapped, FrameUnused, SpaceFigures, OutputLength}
use Rattle.faults.specs.declared.fault.Layer.{Layer}
use Rattle.faults.specs.declared.fault.Layer.TheVariants.{Open, Plan, Process, Space, Dump}

-- The number of a reason.
abbrev pub reason_number : Reason → ℕ
reason_number FileLength = 1
reason_number Magic = 2
reason_number Identification = 3
reason_number FileHeader = 4
reason_number HeaderCount = 5
reason_number HeadersPastEnd = 6
reason_number Interpreter = 7
reason_number LoadCount = 8
reason_number SegmentSize = 9
reason_number SegmentAlignment = 10
reason_number SegmentFlags = 11
reason_number SegmentEnd = 12
reason_number SegmentOrder = 13
reason_number EntryPoint = 14
reason_number DynamicExtent = 15
reason_number DynamicEnd = 16
reason_number DynamicTag = 17
reason_number RelocationTable = 18
reason_number RelocationType = 19
reason_number RelocationTarget = 20
reason_number BiasValue = 21
reason_number BiasEnd = 22
reason_number SlotNumber = 23
reason_number SlotTaken = 24
reason_number OutsideWindow = 25
reason_number PageMapped = 26
reason_number NoRoom = 27
reason_number SlotEmpty = 28
reason_number AccessLength = 29
reason_number OddFetch = 30
reason_number AddressUnmapped = 31
reason_number RightMissing = 32
reason_number RightsNumber = 33
reason_number PageUnmapped = 34
reason_number FrameUnused = 35
reason_number SpaceFigures = 36
reason_number OutputLength = 37

-- The number of a layer.
abbrev pub layer_number : Layer → ℕ
layer_number Open = 1
layer_number Plan = 2
layer_number Process = 3
layer_number Space = 4
layer_number Dump = 5
