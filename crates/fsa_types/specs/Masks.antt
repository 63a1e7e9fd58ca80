-- The bits of masks, the actions of changes and the tags of reparse points by the standard's names. The single rights,
-- what is shared and options stand without FILE_, and attributes without FILE_ATTRIBUTE_, but for
-- FILE_ATTRIBUTE_REPARSE_POINT, which no request may ask for.
use Rattle.std.specs.Prelude.{ℕ, List, [], ◌∷◌, fold}
use Rattle.std.specs.Int.RustNames.{bit_or}

-- the bits of all these
abbrev pub bits_of : List ℕ → ℕ
bits_of masks = fold bit_or 0 masks

-- ---- rights, after [MS-DTYP] 'ACCESS_MASK'

abbrev pub READ_DATA : ℕ
READ_DATA = 0x1

abbrev pub WRITE_DATA : ℕ
WRITE_DATA = 0x2

abbrev pub APPEND_DATA : ℕ
APPEND_DATA = 0x4

abbrev pub READ_EA : ℕ
READ_EA = 0x8

abbrev pub WRITE_EA : ℕ
WRITE_EA = 0x10

abbrev pub EXECUTE : ℕ
EXECUTE = 0x20

abbrev pub DELETE_CHILD : ℕ
DELETE_CHILD = 0x40

abbrev pub READ_ATTRIBUTES : ℕ
READ_ATTRIBUTES = 0x80

abbrev pub WRITE_ATTRIBUTES : ℕ
WRITE_ATTRIBUTES = 0x100

abbrev pub DELETE : ℕ
DELETE = 0x10000

abbrev pub READ_CONTROL : ℕ
READ_CONTROL = 0x20000

abbrev pub WRITE_DAC : ℕ
WRITE_DAC = 0x40000

abbrev pub WRITE_OWNER : ℕ
WRITE_OWNER = 0x80000

abbrev pub SYNCHRONIZE : ℕ
SYNCHRONIZE = 0x100000

abbrev pub GENERIC_ALL : ℕ
GENERIC_ALL = 0x10000000

abbrev pub GENERIC_EXECUTE : ℕ
GENERIC_EXECUTE = 0x20000000

abbrev pub GENERIC_WRITE : ℕ
GENERIC_WRITE = 0x40000000

abbrev pub GENERIC_READ : ℕ
GENERIC_READ = 0x80000000

-- what the four generic rights stand for
abbrev pub FILE_ALL_ACCESS : ℕ
FILE_ALL_ACCESS =
    bits_of (READ_DATA ∷ WRITE_DATA ∷ APPEND_DATA ∷ READ_EA ∷ WRITE_EA ∷ EXECUTE ∷ DELETE_CHILD ∷ READ_ATTRIBUTES ∷ WRITE_ATTRIBUTES
    ∷ DELETE ∷ READ_CONTROL ∷ WRITE_DAC ∷ WRITE_OWNER ∷ SYNCHRONIZE ∷ [])

abbrev pub FILE_GENERIC_EXECUTE : ℕ
FILE_GENERIC_EXECUTE = bits_of (EXECUTE ∷ READ_ATTRIBUTES ∷ READ_CONTROL ∷ SYNCHRONIZE ∷ [])

abbrev pub FILE_GENERIC_WRITE : ℕ
FILE_GENERIC_WRITE = bits_of (WRITE_DATA ∷ APPEND_DATA ∷ WRITE_EA ∷ WRITE_ATTRIBUTES ∷ READ_CONTROL ∷ SYNCHRONIZE ∷ [])

abbrev pub FILE_GENERIC_READ : ℕ
FILE_GENERIC_READ = bits_of (READ_DATA ∷ READ_EA ∷ READ_ATTRIBUTES ∷ READ_CONTROL ∷ SYNCHRONIZE ∷ [])

-- the generic rights
abbrev pub generic_bits : ℕ
generic_bits = bits_of (GENERIC_ALL ∷ GENERIC_EXECUTE ∷ GENERIC_WRITE ∷ GENERIC_READ ∷ [])

-- all that an open may want
abbrev pub known_rights : ℕ
known_rights = bit_or FILE_ALL_ACCESS generic_bits

-- ---- what an open lets others have, after [MS-FSA] 'Server Requests an Open of a File', ShareAccess

abbrev pub SHARE_READ : ℕ
SHARE_READ = 0x1

abbrev pub SHARE_WRITE : ℕ
SHARE_WRITE = 0x2

abbrev pub SHARE_DELETE : ℕ
SHARE_DELETE = 0x4

-- all that an open may share
abbrev pub known_shares : ℕ
known_shares = bits_of (SHARE_READ ∷ SHARE_WRITE ∷ SHARE_DELETE ∷ [])

-- ---- options of an open, after [MS-FSA] 'Server Requests an Open of a File', CreateOptions

abbrev pub DIRECTORY_FILE : ℕ
DIRECTORY_FILE = 0x1

abbrev pub NON_DIRECTORY_FILE : ℕ
NON_DIRECTORY_FILE = 0x40

abbrev pub COMPLETE_IF_OPLOCKED : ℕ
COMPLETE_IF_OPLOCKED = 0x100

abbrev pub DELETE_ON_CLOSE : ℕ
DELETE_ON_CLOSE = 0x1000

abbrev pub OPEN_REPARSE_POINT : ℕ
OPEN_REPARSE_POINT = 0x200000

-- the ten that have no effect
abbrev pub WRITE_THROUGH : ℕ
WRITE_THROUGH = 0x2

abbrev pub SEQUENTIAL_ONLY : ℕ
SEQUENTIAL_ONLY = 0x4

abbrev pub NO_INTERMEDIATE_BUFFERING : ℕ
NO_INTERMEDIATE_BUFFERING = 0x8

abbrev pub SYNCHRONOUS_IO_ALERT : ℕ
SYNCHRONOUS_IO_ALERT = 0x10

abbrev pub SYNCHRONOUS_IO_NONALERT : ℕ
SYNCHRONOUS_IO_NONALERT = 0x20

abbrev pub NO_EA_KNOWLEDGE : ℕ
NO_EA_KNOWLEDGE = 0x200

abbrev pub RANDOM_ACCESS : ℕ
RANDOM_ACCESS = 0x800

abbrev pub OPEN_FOR_BACKUP_INTENT : ℕ
OPEN_FOR_BACKUP_INTENT = 0x4000

abbrev pub NO_COMPRESSION : ℕ
NO_COMPRESSION = 0x8000

abbrev pub OPEN_NO_RECALL : ℕ
OPEN_NO_RECALL = 0x400000

-- all that an open may have
abbrev pub known_options : ℕ
known_options =
    bits_of (DIRECTORY_FILE ∷ NON_DIRECTORY_FILE ∷ COMPLETE_IF_OPLOCKED ∷ DELETE_ON_CLOSE ∷ OPEN_REPARSE_POINT
    ∷ WRITE_THROUGH ∷ SEQUENTIAL_ONLY ∷ NO_INTERMEDIATE_BUFFERING ∷ SYNCHRONOUS_IO_ALERT ∷ SYNCHRONOUS_IO_NONALERT ∷ NO_EA_KNOWLEDGE
    ∷ RANDOM_ACCESS ∷ OPEN_FOR_BACKUP_INTENT ∷ NO_COMPRESSION ∷ OPEN_NO_RECALL ∷ [])

-- ---- attributes, after [MS-FSCC] 'File Attributes'

abbrev pub READONLY : ℕ
READONLY = 0x1

abbrev pub HIDDEN : ℕ
HIDDEN = 0x2

abbrev pub SYSTEM : ℕ
SYSTEM = 0x4

abbrev pub DIRECTORY : ℕ
DIRECTORY = 0x10

abbrev pub ARCHIVE : ℕ
ARCHIVE = 0x20

abbrev pub NORMAL : ℕ
NORMAL = 0x80

abbrev pub TEMPORARY : ℕ
TEMPORARY = 0x100

abbrev pub FILE_ATTRIBUTE_REPARSE_POINT : ℕ
FILE_ATTRIBUTE_REPARSE_POINT = 0x400

abbrev pub OFFLINE : ℕ
OFFLINE = 0x1000

abbrev pub NOT_CONTENT_INDEXED : ℕ
NOT_CONTENT_INDEXED = 0x2000

-- all that a request may have: FILE_ATTRIBUTE_REPARSE_POINT is shown and never asked for
abbrev pub known_attributes : ℕ
known_attributes =
    bits_of (READONLY ∷ HIDDEN ∷ SYSTEM ∷ DIRECTORY ∷ ARCHIVE ∷ NORMAL ∷ TEMPORARY ∷ OFFLINE ∷ NOT_CONTENT_INDEXED ∷ [])

-- ---- actions of changes that are noted, after [MS-FSCC] 'FILE_NOTIFY_INFORMATION', Action

abbrev pub FILE_ACTION_ADDED : ℕ
FILE_ACTION_ADDED = 1

abbrev pub FILE_ACTION_REMOVED : ℕ
FILE_ACTION_REMOVED = 2

abbrev pub FILE_ACTION_MODIFIED : ℕ
FILE_ACTION_MODIFIED = 3

abbrev pub FILE_ACTION_RENAMED_OLD_NAME : ℕ
FILE_ACTION_RENAMED_OLD_NAME = 4

abbrev pub FILE_ACTION_RENAMED_NEW_NAME : ℕ
FILE_ACTION_RENAMED_NEW_NAME = 5

abbrev pub FILE_ACTION_ADDED_STREAM : ℕ
FILE_ACTION_ADDED_STREAM = 6

abbrev pub FILE_ACTION_REMOVED_STREAM : ℕ
FILE_ACTION_REMOVED_STREAM = 7

abbrev pub FILE_ACTION_MODIFIED_STREAM : ℕ
FILE_ACTION_MODIFIED_STREAM = 8

-- ---- filters under which they are noted, after [MS-FSA] 'Server Requests Change Notifications for a
-- Directory', CompletionFilter

abbrev pub FILE_NOTIFY_CHANGE_FILE_NAME : ℕ
FILE_NOTIFY_CHANGE_FILE_NAME = 0x1

abbrev pub FILE_NOTIFY_CHANGE_DIR_NAME : ℕ
FILE_NOTIFY_CHANGE_DIR_NAME = 0x2

abbrev pub FILE_NOTIFY_CHANGE_ATTRIBUTES : ℕ
FILE_NOTIFY_CHANGE_ATTRIBUTES = 0x4

abbrev pub FILE_NOTIFY_CHANGE_SIZE : ℕ
FILE_NOTIFY_CHANGE_SIZE = 0x8

abbrev pub FILE_NOTIFY_CHANGE_LAST_WRITE : ℕ
FILE_NOTIFY_CHANGE_LAST_WRITE = 0x10

abbrev pub FILE_NOTIFY_CHANGE_LAST_ACCESS : ℕ
FILE_NOTIFY_CHANGE_LAST_ACCESS = 0x20

abbrev pub FILE_NOTIFY_CHANGE_CREATION : ℕ
FILE_NOTIFY_CHANGE_CREATION = 0x40

abbrev pub FILE_NOTIFY_CHANGE_EA : ℕ
FILE_NOTIFY_CHANGE_EA = 0x80

abbrev pub FILE_NOTIFY_CHANGE_SECURITY : ℕ
FILE_NOTIFY_CHANGE_SECURITY = 0x100

abbrev pub FILE_NOTIFY_CHANGE_STREAM_NAME : ℕ
FILE_NOTIFY_CHANGE_STREAM_NAME = 0x200

abbrev pub FILE_NOTIFY_CHANGE_STREAM_SIZE : ℕ
FILE_NOTIFY_CHANGE_STREAM_SIZE = 0x400

abbrev pub FILE_NOTIFY_CHANGE_STREAM_WRITE : ℕ
FILE_NOTIFY_CHANGE_STREAM_WRITE = 0x800

-- all that a watch may ask for
abbrev pub known_filters : ℕ
known_filters =
    bits_of (FILE_NOTIFY_CHANGE_FILE_NAME ∷ FILE_NOTIFY_CHANGE_DIR_NAME ∷ FILE_NOTIFY_CHANGE_ATTRIBUTES ∷ FILE_NOTIFY_CHANGE_SIZE
    ∷ FILE_NOTIFY_CHANGE_LAST_WRITE ∷ FILE_NOTIFY_CHANGE_LAST_ACCESS ∷ FILE_NOTIFY_CHANGE_CREATION ∷ FILE_NOTIFY_CHANGE_EA
    ∷ FILE_NOTIFY_CHANGE_SECURITY ∷ FILE_NOTIFY_CHANGE_STREAM_NAME ∷ FILE_NOTIFY_CHANGE_STREAM_SIZE ∷ FILE_NOTIFY_CHANGE_STREAM_WRITE ∷ [])

-- ---- tags of reparse points, after [MS-FSCC] 'Reparse Tags': the two reserved ones, the bit of those that
-- Microsoft owns, and that of a symbolic link
abbrev pub IO_REPARSE_TAG_RESERVED_ZERO : ℕ
IO_REPARSE_TAG_RESERVED_ZERO = 0

abbrev pub IO_REPARSE_TAG_RESERVED_ONE : ℕ
IO_REPARSE_TAG_RESERVED_ONE = 1

abbrev pub MICROSOFT_TAG : ℕ
MICROSOFT_TAG = 0x80000000

abbrev pub IO_REPARSE_TAG_SYMLINK : ℕ
IO_REPARSE_TAG_SYMLINK = 0xA000000C
