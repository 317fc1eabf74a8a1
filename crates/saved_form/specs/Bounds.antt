-- What bounds the tasks that are read, and how far a task is: the code's values of both.
use Rattle.saved_form.specs.declared.read_tasks.Known.{Known as KnownValue}
use Rattle.saved_form.specs.declared.read_tasks.Room.{Room as RoomValue}
use Rattle.saved_form.specs.Reading.{Known, Room, room_of}

abbrev pub known_by : KnownValue → Known
known_by known = record { quanta = known.quanta; tasks = known.tasks; harts = known.harts; slots = known.slots }

abbrev pub room_by : RoomValue → Room
room_by room = room_of room.slots room.before.now room.fuel room.out_max room.data_len room.tape.now
