-- Which status stands for an error of the system.
use Rattle.std.specs.IoError.{error_kind}
use Rattle.std.specs.declared.io.Error.{Error}
use Rattle.std.specs.declared.io.ErrorKind.{ErrorKind}
use Rattle.std.specs.declared.io.ErrorKind.TheVariants.{OutOfMemory}
use Rattle.rocks_session.specs.declared.status.Status.{Status}
use Rattle.rocks_session.specs.declared.status.Status.TheVariants.{BadWords, NoMemory}

abbrev pub status_by_kind : ErrorKind → Status
status_by_kind OutOfMemory = NoMemory
status_by_kind _ = BadWords

-- the status of a program that can't read its words
abbrev pub status_without_words : Error → Status
status_without_words error = status_by_kind (error_kind error)
